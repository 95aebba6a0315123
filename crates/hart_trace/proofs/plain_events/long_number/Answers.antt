use Rattle.hart_trace.proofs.PlainEvents.{spelled_decimal}
use Rattle.hart_trace.proofs.plain_events.long_number.Goals as goal

pub returns : goal.returns
returns c = spelled_decimal c.args.text.now c.in_ok-value.behind.now c.in_ok-value.value c.in_ok-value.ensures.digits
