use Rattle.std.proofs.Common.{◌∙◌, ◌≤◌, ap, arith, length, length-take-le, refl, sym, take}
use Rattle.text_lines.proofs.LinesRead.{begins_line, same_line}
use Rattle.hart_trace.specs.declared.event.Event.TheVariants as events
use Rattle.hart_trace.specs.Events.{meaning_of}
use Rattle.hart_trace.proofs.PlainFronts.{said_ahead}
use Rattle.hart_trace.proofs.ahead.access_ahead.Goals as goal

pub returns-clause-line : goal.returns-clause-line
returns-clause-line c =
    let front = take 64 c.args.ahead.now in
    let few : length front ≤ 1024 = omega (arith, length-take-le 64 c.args.ahead.now c.if-ahead-lt-ENOUGH.false) in
    let said = said_ahead c.args.harts _ c.in_ok-len.len front _ c.in_ok-access.behind.now c.in_ok-len.ensures.1
    (events.Access c.in_ok-access.access c.in_ok-access.value) c.hart_in-hart.ensures c.in_ok-access.ensures c.in_ok-len.ensures.0 c.in_ok-len.ensures.2 few
    in
    begins_line 64 front c.args.ahead.now c.in_ok-len.len refl said.begins

pub returns-clause-access : goal.returns-clause-access
returns-clause-access c =
    let front = take 64 c.args.ahead.now in
    let few : length front ≤ 1024 = omega (arith, length-take-le 64 c.args.ahead.now c.if-ahead-lt-ENOUGH.false) in
    let said = said_ahead c.args.harts _ c.in_ok-len.len front _ c.in_ok-access.behind.now c.in_ok-len.ensures.1
    (events.Access c.in_ok-access.access c.in_ok-access.value) c.hart_in-hart.ensures c.in_ok-access.ensures c.in_ok-len.ensures.0 c.in_ok-len.ensures.2 few
    in
    ap (meaning_of c.args.harts) (sym (same_line 64 front c.args.ahead.now c.in_ok-len.len refl said.begins)) ∙ said.says
