use Rattle.std.proofs.Common.{◌∙◌, ap, sym, subst, Some}
use Rattle.monitor_core.specs.Parts.{state_in}
use Rattle.monitor_core.specs.SetChanges.{later}
use Rattle.monitor_core.specs.Steps.{DoesCall}
use Rattle.monitor_core.proofs.parts.MonitorParts.call.Goals as goal

pub returns-in_default-clause-step : goal.returns-in_default-clause-step
returns-in_default-clause-step g c = λ sets.
    let hart = c.args.hart in
    let said = c.refuse.result in
    let new = c.refuse.new in
    subst (λ o. DoesCall o (g.D.Digests.digest_of c.args.digests.now) (state_in c.args.self.now sets) hart said.answer said.zero
    (state_in new.self (later hart new.changes sets))) (sym (c.in_default.ensures)) (c.refuse.ensures.step sets)

pub returns-in-Create-clause-step : goal.returns-in-Create-clause-step
returns-in-Create-clause-step g c = λ sets.
    let hart = c.args.hart in
    let said = c.create.result in
    let new = c.create.new in
    subst (λ o. DoesCall o (g.D.Digests.digest_of c.args.digests.now) (state_in c.args.self.now sets) hart said.answer said.zero
    (state_in new.self (later hart new.changes sets))) (sym (c.in-Ok.ensures ∙ ap Some c.in-Create.is)) (c.create.ensures.step sets)

pub returns-in-Destroy-clause-step : goal.returns-in-Destroy-clause-step
returns-in-Destroy-clause-step g c = λ sets.
    let hart = c.args.hart in
    let said = c.destroy.result in
    let new = c.destroy.new in
    subst (λ o. DoesCall o (g.D.Digests.digest_of c.args.digests.now) (state_in c.args.self.now sets) hart said.answer said.zero
    (state_in new.self (later hart new.changes sets))) (sym (c.in-Ok.ensures ∙ ap Some c.in-Destroy.is)) (c.destroy.ensures.step sets)

pub returns-in-Run-clause-step : goal.returns-in-Run-clause-step
returns-in-Run-clause-step g c = λ sets.
    let hart = c.args.hart in
    let said = c.enter.result in
    let new = c.enter.new in
    subst (λ o. DoesCall o (g.D.Digests.digest_of c.args.digests.now) (state_in c.args.self.now sets) hart said.answer said.zero
    (state_in new.self (later hart new.changes sets))) (sym (c.in-Ok.ensures ∙ ap Some c.in-Run.is)) (c.enter.ensures.step sets)

pub returns-in-Stop-clause-step : goal.returns-in-Stop-clause-step
returns-in-Stop-clause-step g c = λ sets.
    let hart = c.args.hart in
    let said = c.stop.result in
    let new = c.stop.new in
    subst (λ o. DoesCall o (g.D.Digests.digest_of c.args.digests.now) (state_in c.args.self.now sets) hart said.answer said.zero
    (state_in new.self (later hart new.changes sets))) (sym (c.in-Ok.ensures ∙ ap Some c.in-Stop.is)) (c.stop.ensures.step sets)

pub returns-in-Resume-clause-step : goal.returns-in-Resume-clause-step
returns-in-Resume-clause-step g c = λ sets.
    let hart = c.args.hart in
    let said = c.enter-in-Resume.result in
    let new = c.enter-in-Resume.new in
    subst (λ o. DoesCall o (g.D.Digests.digest_of c.args.digests.now) (state_in c.args.self.now sets) hart said.answer said.zero
    (state_in new.self (later hart new.changes sets))) (sym (c.in-Ok.ensures ∙ ap Some c.in-Resume.is)) (c.enter-in-Resume.ensures.step sets)

pub returns-in-Exit-clause-step : goal.returns-in-Exit-clause-step
returns-in-Exit-clause-step g c = λ sets.
    let hart = c.args.hart in
    let said = c.exit.result in
    let new = c.exit.new in
    subst (λ o. DoesCall o (g.D.Digests.digest_of c.args.digests.now) (state_in c.args.self.now sets) hart said.answer said.zero
    (state_in new.self (later hart new.changes sets))) (sym (c.in-Ok.ensures ∙ ap Some c.in-Exit.is)) (c.exit.ensures.step sets)

pub returns-in-Measure-clause-step : goal.returns-in-Measure-clause-step
returns-in-Measure-clause-step g c = λ sets.
    let hart = c.args.hart in
    let said = c.measure.result in
    let new = c.measure.new in
    subst (λ o. DoesCall o (g.D.Digests.digest_of c.args.digests.now) (state_in c.args.self.now sets) hart said.answer said.zero
    (state_in new.self (later hart new.changes sets))) (sym (c.in-Ok.ensures ∙ ap Some c.in-Measure.is)) (c.measure.ensures.step sets)
