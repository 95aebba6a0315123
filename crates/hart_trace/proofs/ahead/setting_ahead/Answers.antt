use Rattle.hart_trace.specs.declared.event.Event.TheVariants as events
use Rattle.hart_trace.proofs.PlainFronts.{said_ahead}
use Rattle.hart_trace.proofs.ahead.setting_ahead.Goals as goal

pub returns-clause-line : goal.returns-clause-line
returns-clause-line c =
    (said_ahead c.args.harts _ c.in_ok-len.len c.args.ahead.now _ c.in_ok-register.behind.now c.in_ok-len.ensures.1
    (events.Reg c.in_ok-register.register c.in_ok-register.value) c.hart_in-hart.ensures c.in_ok-register.ensures c.in_ok-len.ensures.0
    c.in_ok-len.ensures.2 c.requires).begins

pub returns-clause-setting : goal.returns-clause-setting
returns-clause-setting c =
    (said_ahead c.args.harts _ c.in_ok-len.len c.args.ahead.now _ c.in_ok-register.behind.now c.in_ok-len.ensures.1
    (events.Reg c.in_ok-register.register c.in_ok-register.value) c.hart_in-hart.ensures c.in_ok-register.ensures c.in_ok-len.ensures.0
    c.in_ok-len.ensures.2 c.requires).says
