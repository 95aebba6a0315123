use Rattle.hart_trace.proofs.PlainFronts.{is_named, is_unnamed}
use Rattle.hart_trace.proofs.plain.hart_in.Goals as goal

pub returns-in-Some : goal.returns-in-Some
returns-in-Some c =
    let named = c.in-Some.ensures in
    is_named c.args.harts named.0 c.in-Some.hart c.args.line.now c.in-Some.rest.now named.1 named.2

pub returns-in-None : goal.returns-in-None
returns-in-None c = is_unnamed c.args.harts c.args.line.now
