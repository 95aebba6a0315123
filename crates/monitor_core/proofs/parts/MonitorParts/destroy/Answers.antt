use Rattle.std.proofs.Common.{◌∙◌, ◌<◌, inl, inr, refl, ap, sym, subst, None}
use Rattle.enclave_table.specs.Destroy.{Destroys}
use Rattle.enclave_table.specs.Refusals.{refusal_number, RefusesBy}
use Rattle.enclave_table.proofs.Places.{live_above}
use Rattle.monitor_core.specs.Changes.{marking_others}
use Rattle.monitor_core.specs.Parts.{state_in}
use Rattle.monitor_core.specs.SetChanges.{later}
use Rattle.monitor_core.specs.Steps.{Refuses}
use Rattle.monitor_core.proofs.Framed.{frame_placed}
use Rattle.monitor_core.proofs.Moved.{gone_runs_nowhere, none_rests, whole_placed}
use Rattle.monitor_core.proofs.Stayed.{not_removed}
use Rattle.monitor_core.proofs.parts.MonitorParts.destroy.Goals as goal
use Rattle.enclave_table.specs.Checks.{host_checks, MayDestroy}
use Rattle.enclave_table.specs.Fewest.{NeedsMore}
use Rattle.enclave_table.specs.Views.{host_view}
use Rattle.enclave_table.specs.Enclaves.{with_enclave}

pub say_destroyed-requires-clause-whole : goal.say_destroyed-requires-clause-whole
say_destroyed-requires-clause-whole c =
    let old = c.args.self.now in
    let now = c.destroy.new.self in
    let done = c.in-Ok.ensures.done in
    let e = done.passes.1.0 in
    whole_placed old.table now old.worlds old.marked c.args.id None c.requires.on.whole (live_above old.table.table.enclaves c.args.id e.0 e.1)
    (gone_runs_nowhere old.table old.worlds old.marked c.world-world.result c.args.id c.in-Ok.range now.table c.requires.on.whole done) none_rests done.removed

pub say_destroyed-requires-clause-low : goal.say_destroyed-requires-clause-low
say_destroyed-requires-clause-low c =
    let e = c.in-Ok.ensures.done.passes.1.0 in
    live_above c.args.self.now.table.table.enclaves c.args.id e.0 e.1

pub mark_others-requires : goal.mark_others-requires
mark_others-requires c =
    let old = c.args.self.now in
    let now = c.destroy.new.self in
    let done = c.in-Ok.ensures.done in
    let e = done.passes.1.0 in
    record {
      on = record {
        known = subst (λ t. c.args.hart < t.layout.harts) (sym done.removed) c.requires.on.known;
        whole = whole_placed old.table now old.worlds old.marked c.args.id None c.requires.on.whole (live_above old.table.table.enclaves c.args.id e.0 e.1)
            (gone_runs_nowhere old.table old.worlds old.marked c.world-world.result c.args.id c.in-Ok.range now.table c.requires.on.whole done) none_rests
            done.removed;
      };
    }

pub returns-in-Ok-clause-step : goal.returns-in-Ok-clause-step
returns-in-Ok-clause-step c = λ sets.
    let old = c.args.self.now in
    let now = c.destroy.new.self.table in
    inl (
      c.in-Ok.range,
      now,
      subst (λ w. Destroys old.table.table w c.args.id c.in-Ok.range now) c.world-world.ensures c.in-Ok.ensures.done,
      record {
        state = c.mark_others.ensures.state (later c.args.hart c.say_destroyed.new.changes sets)
            ∙ ap (λ s. marking_others s c.args.hart) (c.say_destroyed.ensures.state sets);
        told = c.done.ensures;
        zeroes = refl;
      },
    )

pub returns-in-Err-clause-step : goal.returns-in-Err-clause-step
returns-in-Err-clause-step c = λ sets.
    let old = c.args.self.now in
    let said = c.refuse_for.result in
    inr (
      c.in-Err.refusal,
      subst (λ w. RefusesBy (host_checks MayDestroy old.table.table w c.args.id)
          (NeedsMore old.table.table.layout.limit (host_view (with_enclave old.table.table c.args.id None))) c.in-Err.refusal) c.world-world.ensures
          c.in-Err.ensures.refused,
      subst (λ k. Refuses (refusal_number c.in-Err.refusal) (state_in (record old { table = k }) sets) c.args.hart said.answer said.zero
          (state_in c.refuse_for.new.self (later c.args.hart c.refuse_for.new.changes sets))) c.in-Err.ensures.kept (c.refuse_for.ensures.step sets),
    )

pub returns-in-Ok-clause-frame : goal.returns-in-Ok-clause-frame
returns-in-Ok-clause-frame c =
    let old = c.args.self.now in
    let now = c.destroy.new.self in
    let done = c.in-Ok.ensures.done in
    let e = done.passes.1.0 in
    frame_placed old c.mark_others.new.self now c.args.id None c.mark_others.ensures.whole c.mark_others.ensures.table done.removed
    (not_removed old.table.table now.table c.args.id e.0 e.1 done.removed)

pub returns-in-Ok-clause-load : goal.returns-in-Ok-clause-load
returns-in-Ok-clause-load c = λ table world.
    let done = c.in-Ok.ensures.done in
    let e = done.passes.1.0 in
    not_removed c.args.self.now.table.table c.destroy.new.self.table c.args.id e.0 e.1 done.removed
    (ap (λ k. k.table) (sym c.mark_others.ensures.table) ∙ table)
