use Rattle.std.proofs.Common.{◌∙◌, ◌<◌, inl, inr, refl, ap, sym, subst}
use Rattle.enclave_table.specs.Create.{Creates, OutgrowsByCreate}
use Rattle.enclave_table.specs.Refusals.{refusal_number, RefusesBy}
use Rattle.monitor_core.specs.Changes.{marking_others}
use Rattle.monitor_core.specs.Parts.{state_in}
use Rattle.monitor_core.specs.SetChanges.{later}
use Rattle.monitor_core.specs.Steps.{Refuses}
use Rattle.monitor_core.proofs.Framed.{frame_placed}
use Rattle.monitor_core.proofs.Moved.{free_runs_nowhere, made_rests, whole_placed}
use Rattle.monitor_core.proofs.Stayed.{not_added}
use Rattle.monitor_core.proofs.parts.MonitorParts.create.Goals as goal
use Rattle.enclave_table.specs.Checks.{create_checks}
use Rattle.measurement.specs.Requests.{parts_of}

pub answer-requires-clause-whole : goal.answer-requires-clause-whole
answer-requires-clause-whole g c =
    let old = c.args.self.now in
    let done = c.in-Ok.ensures.done in
    whole_placed old.table c.create_by.new.table old.worlds old.marked c.in-Ok.id _ c.requires.on.whole done.next.free.0
    (free_runs_nowhere old.table old.worlds old.marked c.in-Ok.id c.requires.on.whole done.next.free.2)
    (made_rests (g.D.Digests.digest_of c.args.digests.now) (parts_of c.args.asked)) done.added

pub mark_others-requires : goal.mark_others-requires
mark_others-requires g c =
    let old = c.args.self.now in
    let done = c.in-Ok.ensures.done in
    record {
      on = record {
        known = subst (λ t. c.args.hart < t.layout.harts) (sym done.added) c.requires.on.known;
        whole = whole_placed old.table c.create_by.new.table old.worlds old.marked c.in-Ok.id _ c.requires.on.whole done.next.free.0
            (free_runs_nowhere old.table old.worlds old.marked c.in-Ok.id c.requires.on.whole done.next.free.2)
            (made_rests (g.D.Digests.digest_of c.args.digests.now) (parts_of c.args.asked)) done.added;
      };
    }

pub returns-in-Ok-clause-step : goal.returns-in-Ok-clause-step
returns-in-Ok-clause-step g c = λ sets.
    let old = c.args.self.now in
    let now = c.create_by.new.table.table in
    inl (
      c.in-Ok.id,
      now,
      subst (λ w. Creates (g.D.Digests.digest_of c.args.digests.now) old.table.table w c.args.asked c.in-Ok.id now) c.world-world.ensures c.in-Ok.ensures.done,
      record {
        state = c.mark_others.ensures.state (later c.args.hart c.answer.new.changes sets)
            ∙ ap (λ s. marking_others s c.args.hart) (c.answer.ensures.state sets);
        told = c.done.ensures;
        zeroes = refl;
      },
    )

pub returns-in-Err-clause-step : goal.returns-in-Err-clause-step
returns-in-Err-clause-step g c = λ sets.
    let old = c.args.self.now in
    let said = c.refuse_for.result in
    inr (
      c.in-Err.refusal,
      subst (λ w. RefusesBy (create_checks old.table.table w (parts_of c.args.asked))
          (OutgrowsByCreate (g.D.Digests.digest_of c.args.digests.now) old.table.table c.args.asked) c.in-Err.refusal) c.world-world.ensures
          c.in-Err.ensures.refused,
      subst (λ k. Refuses (refusal_number c.in-Err.refusal) (state_in (record old { table = k }) sets) c.args.hart said.answer said.zero
          (state_in c.refuse_for.new.self (later c.args.hart c.refuse_for.new.changes sets))) c.in-Err.ensures.kept (c.refuse_for.ensures.step sets),
    )

pub returns-in-Ok-clause-frame : goal.returns-in-Ok-clause-frame
returns-in-Ok-clause-frame g c =
    let old = c.args.self.now in
    let now = c.create_by.new.table in
    let done = c.in-Ok.ensures.done in
    frame_placed old c.mark_others.new.self now c.in-Ok.id _ c.mark_others.ensures.whole c.mark_others.ensures.table done.added
    (not_added old.table.table now.table c.in-Ok.id _ c.cite_invariant.ensures.table done.next done.added)

pub returns-in-Ok-clause-load : goal.returns-in-Ok-clause-load
returns-in-Ok-clause-load g c = λ table world.
    let old = c.args.self.now in
    let done = c.in-Ok.ensures.done in
    not_added old.table.table c.create_by.new.table.table c.in-Ok.id _ c.cite_invariant.ensures.table done.next done.added
    (ap (λ k. k.table) (sym c.mark_others.ensures.table) ∙ table)
