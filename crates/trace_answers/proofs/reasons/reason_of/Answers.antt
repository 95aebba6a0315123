-- The four cases of what decides an access.
use Rattle.std.proofs.Common.{arith}
use Rattle.pmp_match.proofs.Aligned.{aligned, not_aligned}
use Rattle.trace_answers.specs.Reasons.{misaligned, outside, no_entry, entry}
use Rattle.trace_answers.proofs.reasons.reason_of.Goals as goal

pub returns-then-not-is_aligned : goal.returns-then-not-is_aligned
returns-then-not-is_aligned g c = misaligned (not_aligned c.args.access.now c.is_aligned.result c.is_aligned.ensures c.if-not-is_aligned.true)

pub returns-then-addr-ge-SPACE_SIZE : goal.returns-then-addr-ge-SPACE_SIZE
returns-then-addr-ge-SPACE_SIZE g c = outside (aligned c.args.access.now c.is_aligned.result c.is_aligned.ensures c.if-not-is_aligned.false)
    (omega (arith, c.if-addr-ge-SPACE_SIZE.true, c.addr.ensures))

pub returns-in-None : goal.returns-in-None
returns-in-None g c = no_entry (aligned c.args.access.now c.is_aligned.result c.is_aligned.ensures c.if-not-is_aligned.false)
    (omega (arith, c.if-addr-ge-SPACE_SIZE.false, c.addr.ensures)) (rw c.in-None.is at c.decider.ensures)

pub returns-in-Some : goal.returns-in-Some
returns-in-Some g c = rw c.has_all.ensures (entry (aligned c.args.access.now c.is_aligned.result c.is_aligned.ensures c.if-not-is_aligned.false)
    (omega (arith, c.if-addr-ge-SPACE_SIZE.false, c.addr.ensures)) c.in-Some.found (rw c.in-Some.is at c.decider.ensures))
