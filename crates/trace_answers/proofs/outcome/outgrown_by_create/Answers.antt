use Rattle.std.proofs.Common.{◌∙◌, ap, arith}
use Rattle.pmp_encoding.specs.Limits.{limit_number}
use Rattle.trace_answers.proofs.outcome.outgrown_by_create.Goals as goal

pub returns-then-needs-limit-2 : goal.returns-then-needs-limit-2
returns-then-needs-limit-2 c =
    let limit = c.number-limit.ensures.value ∙ ap limit_number c.limit.ensures in
    let own = rw c.in-Ok-Some.field-0-is at c.in-Ok-Some.ensures.own in
    let host = rw c.in-Ok-Some.field-0-is at c.in-Ok-Some.ensures.host in
    (own, omega (arith, limit, c.if-needs-limit-2.true), (c.in-Ok-Some.needs.host, host, omega (arith, limit, c.if-needs-limit.false)))
