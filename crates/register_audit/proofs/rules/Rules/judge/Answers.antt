-- The four cases of a judgement.
use Rattle.std.proofs.Common.{arith}
use Rattle.std.proofs.lemmas.Bool.{both_ways}
use Rattle.pmp_match.proofs.Aligned.{aligned, not_aligned}
use Rattle.register_audit.specs.Judgement.{allowed, denied, off_its_size, outside}
use Rattle.register_audit.proofs.rules.Rules.judge.Goals as goal

pub returns-then-not-is_aligned : goal.returns-then-not-is_aligned
returns-then-not-is_aligned c = rw c.misaligned.ensures (off_its_size (not_aligned c.args.access.now c.is_aligned.result c.is_aligned.ensures
    c.if-not-is_aligned.true))

pub returns-then-access-ge-SPACE_SIZE : goal.returns-then-access-ge-SPACE_SIZE
returns-then-access-ge-SPACE_SIZE c =
    rw c.access_fault.ensures (outside (aligned c.args.access.now c.is_aligned.result c.is_aligned.ensures c.if-not-is_aligned.false)
    (omega (arith, c.if-access-ge-SPACE_SIZE.true)))

pub returns-then-not-allow : goal.returns-then-not-allow
returns-then-not-allow c =
    rw c.access_fault-then-not-allow.ensures
    (denied (aligned c.args.access.now c.is_aligned.result c.is_aligned.ensures c.if-not-is_aligned.false) (omega (arith, c.if-access-ge-SPACE_SIZE.false))
    (λ may. both_ways c.allow.result c.if-not-allow.true (rw c.self.view_is at c.allow.ensures.1 may)))

pub returns : goal.returns
returns c =
    allowed (aligned c.args.access.now c.is_aligned.result c.is_aligned.ensures c.if-not-is_aligned.false) (omega (arith, c.if-access-ge-SPACE_SIZE.false))
    (rw c.self.view_is at c.allow.ensures.0 c.if-not-allow.false)
