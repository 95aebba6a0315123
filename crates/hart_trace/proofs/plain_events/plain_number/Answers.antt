use Rattle.hart_trace.proofs.PlainEvents.{spelled_hexadecimal}
use Rattle.hart_trace.proofs.plain_events.plain_number.Goals as goal

pub returns-in-Some-behind_mark : goal.returns-in-Some-behind_mark
returns-in-Some-behind_mark c = spelled_hexadecimal c.args.text.now c.in-Some-behind_mark.digits.now c.in_ok-value.behind.now c.in_ok-value.value
    c.in-Some-behind_mark.ensures c.in_ok-value.ensures
