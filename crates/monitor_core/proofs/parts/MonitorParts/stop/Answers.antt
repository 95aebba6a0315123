use Rattle.std.proofs.Common.{◌∙◌, inl, inr, refl, ap, subst}
use Rattle.enclave_table.specs.Refusals.{refusal_number}
use Rattle.sbi_decode.specs.Runners.{runner_of}
use Rattle.sbi_decode.specs.declared.world.World.TheVariants.{Host}
use Rattle.monitor_core.specs.Changes.{answering, in_world}
use Rattle.monitor_core.specs.Parts.{state_in, world_in}
use Rattle.monitor_core.specs.SetChanges.{change, later}
use Rattle.monitor_core.specs.Steps.{Refuses}
use Rattle.monitor_core.proofs.Said.{answered_is, back_said}
use Rattle.monitor_core.proofs.parts.MonitorParts.stop.Goals as goal

pub returns-in-Ok-clause-step : goal.returns-in-Ok-clause-step
returns-in-Ok-clause-step c = λ sets.
    let old = c.args.self.now in
    let hart = c.args.hart in
    let d = c.in-Ok.ensures.done in
    let now = c.leave.new.self.table.table in
    let second = c.answer.new.self in
    let third = c.answer-in-Ok.new.self in
    let own = answered_is hart second sets (runner_of hart (world_in old.worlds hart)) c.running-enclave.result 0 0 c.answer.ensures
    c.running-enclave.ensures.owner in
    inl (
      d.0,
      now,
      d.1,
      record {
        state = c.in-Ok.ensures.state (change hart third (change hart second sets))
            ∙ ap (λ f. in_world (record (state_in old (change hart third f)) { table = now }) hart Host) own
            ∙ back_said (answering (record (state_in old sets) { table = now }) hart 0 0) hart 1 0 third c.answer-in-Ok.ensures;
        told = c.done.ensures;
        zeroes = refl;
      },
    )

pub returns-in-Err-clause-step : goal.returns-in-Err-clause-step
returns-in-Err-clause-step c = λ sets.
    let said = c.refuse_for.result in
    inr (
      c.in-Err.refusal,
      c.in-Err.ensures.refused,
      subst (λ p. Refuses (refusal_number c.in-Err.refusal) (state_in p sets) c.args.hart said.answer said.zero
          (state_in c.refuse_for.new.self (later c.args.hart c.refuse_for.new.changes sets))) c.in-Err.ensures.kept (c.refuse_for.ensures.step sets),
    )
