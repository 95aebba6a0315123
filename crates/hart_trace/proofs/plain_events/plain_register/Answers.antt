use Rattle.std.proofs.Common.{◌∙◌, sym}
use Rattle.hart_trace.proofs.PlainEvents.{register_begins}
use Rattle.hart_trace.proofs.plain_events.plain_register.Goals as goal

pub returns : goal.returns
returns c = register_begins c.args.text.now c.in_ok-digits.digits.now c.in_ok-n.behind.now c.in_ok-rest.rest.now c.in_ok-n.n c.in_ok-digits.ensures
    c.in_ok-n.ensures.digits c.in_ok-rest.ensures (sym c.has_leading_zero.ensures ∙ c.if-has_leading_zero.false) c.if-n-ge32.false
