use Rattle.hart_trace.specs.declared.event.Event.TheVariants as events
use Rattle.hart_trace.proofs.PlainFronts.{said_ahead}
use Rattle.hart_trace.proofs.ahead.call_ahead.Goals as goal

pub returns-clause-line : goal.returns-clause-line
returns-clause-line c =
    (said_ahead c.args.harts _ c.in_ok-len.len c.args.ahead.now _ c.in_ok-behind.behind.now c.in_ok-len.ensures.1
    (events.Ecall c.plain_call.new.words) c.hart_in-hart.ensures c.in_ok-behind.ensures c.in_ok-len.ensures.0 c.in_ok-len.ensures.2 c.requires.few).begins

pub returns-clause-call : goal.returns-clause-call
returns-clause-call c =
    (said_ahead c.args.harts _ c.in_ok-len.len c.args.ahead.now _ c.in_ok-behind.behind.now c.in_ok-len.ensures.1
    (events.Ecall c.plain_call.new.words) c.hart_in-hart.ensures c.in_ok-behind.ensures c.in_ok-len.ensures.0 c.in_ok-len.ensures.2 c.requires.few).says
