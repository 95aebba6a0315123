use Rattle.hart_trace.specs.declared.event.Event.TheVariants as events
use Rattle.hart_trace.proofs.PlainFronts.{said_ahead}
use Rattle.hart_trace.proofs.ahead.interrupt_ahead.Goals as goal

pub returns-clause-line : goal.returns-clause-line
returns-clause-line c =
    (said_ahead c.args.harts _ c.in_ok-len.len c.args.ahead.now _ c.in_ok-behind.behind.now c.in_ok-len.ensures.1
    (events.Irq) c.hart_in-hart.ensures c.in_ok-behind.ensures c.in_ok-len.ensures.0 c.in_ok-len.ensures.2 c.requires).begins

pub returns-clause-interrupt : goal.returns-clause-interrupt
returns-clause-interrupt c =
    (said_ahead c.args.harts _ c.in_ok-len.len c.args.ahead.now _ c.in_ok-behind.behind.now c.in_ok-len.ensures.1
    (events.Irq) c.hart_in-hart.ensures c.in_ok-behind.ensures c.in_ok-len.ensures.0 c.in_ok-len.ensures.2 c.requires).says
