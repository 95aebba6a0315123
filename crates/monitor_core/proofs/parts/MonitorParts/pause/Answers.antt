use Rattle.std.proofs.Common.{◌≡◌, ◌∙◌, ap, sym, subst}
use Rattle.enclave_table.specs.Lives.{Leaves}
use Rattle.enclave_table.specs.declared.enclave.Stage.TheVariants.{Stopped}
use Rattle.sbi_decode.specs.declared.world.World.TheVariants.{Host}
use Rattle.monitor_core.specs.Changes.{in_world}
use Rattle.monitor_core.specs.Parts.{state_in, world_in}
use Rattle.monitor_core.specs.SetChanges.{change}
use Rattle.monitor_core.specs.Steps.{Interrupts}
use Rattle.monitor_core.proofs.Said.{back_said, nothing_is}
use Rattle.monitor_core.proofs.parts.MonitorParts.pause.Goals as goal

pub returns-in-Host-clause-step : goal.returns-in-Host-clause-step
returns-in-Host-clause-step c = λ sets.
    let old = c.args.self.now in
    let hart = c.args.hart in
    let first = c.nothing.new.self in
    let second = c.nothing-2.new.self in
    let third = c.nothing-3.new.self in
    let at : world_in old.worlds hart ≡ Host = sym c.world.ensures ∙ c.in-Host.is in
    let same = nothing_is hart third (change hart second (change hart first sets)) c.nothing-3.ensures.kind
    ∙ nothing_is hart second (change hart first sets) c.nothing-2.ensures.kind ∙ nothing_is hart first sets c.nothing.ensures.kind in
    subst (λ w. Interrupts w (state_in old sets) hart (state_in old (change hart third (change hart second (change hart first sets))))) (sym at)
    (ap (state_in old) same)

pub returns-in-Ok-clause-step : goal.returns-in-Ok-clause-step
returns-in-Ok-clause-step c = λ sets.
    let old = c.args.self.now in
    let hart = c.args.hart in
    let new = c.leave.new.self in
    let d = c.in-Ok.ensures.done in
    let now = new.table.table in
    let first = c.answer.new.self in
    let second = c.nothing-2.new.self in
    let third = c.nothing-3.new.self in
    let all = change hart third (change hart second (change hart first sets)) in
    let same = nothing_is hart third (change hart second (change hart first sets)) c.nothing-3.ensures.kind
    ∙ nothing_is hart second (change hart first sets) c.nothing-2.ensures.kind in
    let state = c.in-Ok.ensures.state all ∙ ap (λ f. in_world (record (state_in old f) { table = now }) hart Host) same
    ∙ back_said (record (state_in old sets) { table = now }) hart 1 0 first c.answer.ensures in
    subst (λ w. Interrupts w (state_in old sets) hart (state_in new all)) (sym d.1.left)
    (now, subst (λ w. Leaves old.table.table w Stopped d.0 now) d.1.left d.1, state)
