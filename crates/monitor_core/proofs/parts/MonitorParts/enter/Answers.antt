use Rattle.std.proofs.Common.{◌∙◌, inl, inr, refl, ap, sym, subst, ℕ, ◌≡◌}
use Rattle.enclave_table.specs.Checks.{host_checks, state_before}
use Rattle.enclave_table.specs.Lives.{Enters}
use Rattle.platforms.specs.CheckLists.{FailsFirst}
use Rattle.enclave_table.specs.Refusals.{refusal_number}
use Rattle.sbi_decode.specs.Registers.{zeros}
use Rattle.sbi_decode.specs.declared.world.World.TheVariants.{Enclave as InEnclave}
use Rattle.monitor_core.specs.Changes.{in_world}
use Rattle.monitor_core.specs.Parts.{state_in}
use Rattle.monitor_core.specs.SetChanges.{later}
use Rattle.monitor_core.specs.Steps.{Refuses}
use Rattle.monitor_core.proofs.Framed.{frame_turned}
use Rattle.monitor_core.proofs.Moved.{entering_turns, entry_is}
use Rattle.monitor_core.proofs.parts.MonitorParts.enter.Goals as goal

pub returns-in-Err-clause-step : goal.returns-in-Err-clause-step
returns-in-Err-clause-step c = λ sets.
    let old = c.args.self.now in
    let said = c.refuse_for.result in
    inr (
      c.in-Err.refusal,
      subst (λ w. FailsFirst (host_checks (λ state. state ≡ state_before c.args.entering) old.table.table w c.args.id) c.in-Err.refusal) c.world-world.ensures
          c.in-Err.ensures.refused,
      subst (λ k. Refuses (refusal_number c.in-Err.refusal) (state_in (record old { table = k }) sets) c.args.hart said.answer said.zero
          (state_in c.refuse_for.new.self (later c.args.hart c.refuse_for.new.changes sets))) c.in-Err.ensures.kept (c.refuse_for.ensures.step sets),
    )

pub returns-clause-step : goal.returns-clause-step
returns-clause-step c = λ sets.
    let old = c.args.self.now in
    let hart = c.args.hart in
    let done = c.in-Ok.ensures.done in
    let now = c.enter.new.self.table in
    let e = done.turned.0 in
    inl (
      e,
      now,
      done.turned.1,
      subst (λ w. Enters old.table.table w c.args.id (state_before c.args.entering) now) c.world-world.ensures done,
      record {
        state = c.go_to.ensures.state (later hart c.prepare.new.changes sets) ∙ ap (λ s. in_world s hart (InEnclave c.args.id))
            (c.prepare.ensures.state (record (state_in old sets) { table = now }) hart e
            (entry_is old.table.table now c.args.id c.in-Some.pc _ done.turned (sym c.in-Some.is ∙ c.entry_point.ensures)));
        told = c.done.ensures;
        zeroes = refl;
      },
    )

pub returns-clause-frame : goal.returns-clause-frame
returns-clause-frame c =
    let old = c.args.self.now in
    let now = c.enter.new.self in
    let new = c.go_to.new.self in
    let to = InEnclave c.args.id in
    let went = λ (i : ℕ). ap (λ s. s.worlds i) (c.go_to.ensures.state (λ who. zeros)) in
    let turns = entering_turns old.table now old.worlds new.worlds old.marked c.args.hart c.args.id c.world-world.result c.args.entering c.requires.on.whole
    c.world-world.ensures c.in-Ok.ensures.done c.requires.on.known c.requires.awake went in
    frame_turned old new now c.args.hart c.args.id to c.requires.on.whole turns c.go_to.ensures.table c.go_to.ensures.marks c.in-Ok.ensures.lists
