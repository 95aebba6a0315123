use Rattle.hart_trace.specs.declared.event.Event.TheVariants.{Ecall, Irq}
use Rattle.library_tests.proofs.InTurn.{after_six}
use Rattle.library_tests.proofs.headline.life.Goals as goal

-- each step goes on by its event, and of the machine after all six the law says the headline
pub returns : goal.returns
returns c = λ platform events replies a.
    let created = c.step-created.ensures.after platform _ _ a in
    let entered = c.step-entered.ensures.after platform _ _ created in
    let stopped = c.step-stopped.ensures.after platform _ _ entered in
    let resumed = c.step-resumed.ensures.after platform _ _ stopped in
    let left = c.step-left.ensures.after platform _ _ resumed in
    let destroyed = c.step-destroyed.ensures.after platform _ _ left in
    c.headline_law.ensures platform _ _ _
    (after_six platform events replies c.step-destroyed.new.self (0, Ecall c.args.create) (0, Ecall c.args.enter) (0, Irq) (1, Ecall c.args.resume)
    (1, Ecall c.args.leave) (0, Ecall c.args.destroy)
    c.step-created.result c.step-entered.result c.step-stopped.result c.step-resumed.result c.step-left.result c.step-destroyed.result destroyed)
