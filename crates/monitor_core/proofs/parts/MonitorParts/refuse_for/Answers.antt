use Rattle.std.proofs.Common.{◌∙◌, subst}
use Rattle.monitor_core.specs.Parts.{state_in}
use Rattle.monitor_core.specs.SetChanges.{later}
use Rattle.monitor_core.specs.Steps.{Refuses}
use Rattle.monitor_core.proofs.parts.MonitorParts.refuse_for.Goals as goal

pub returns-clause-step : goal.returns-clause-step
returns-clause-step c = λ sets.
    let said = c.refuse.result in
    subst (λ n. Refuses n (state_in c.args.self.now sets) c.args.hart said.answer said.zero
    (state_in c.refuse.new.self (later c.args.hart c.refuse.new.changes sets))) (c.from.ensures ∙ c.number.ensures) (c.refuse.ensures.step sets)
