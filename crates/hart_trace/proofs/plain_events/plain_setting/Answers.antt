use Rattle.hart_trace.proofs.PlainEvents.{setting_event}
use Rattle.hart_trace.proofs.plain_events.plain_setting.Goals as goal

pub returns : goal.returns
returns c =
    let named = c.in_ok-register.ensures in
    setting_event c.args.text.now c.in_ok-rest.rest.now c.in_ok-register.behind.now c.in_ok-value.end.now named.0 c.in_ok-register.register c.in_ok-value.value
    c.in_ok-rest.ensures named.1 named.2 named.3 c.in_ok-value.ensures
