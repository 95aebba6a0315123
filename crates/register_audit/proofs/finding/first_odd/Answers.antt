use Rattle.std.proofs.Common.{arith}
use Rattle.register_audit.specs.Findings.{agrees}
use Rattle.register_audit.proofs.Each.{all_more, all_whole, split_at}
use Rattle.register_audit.proofs.finding.first_odd.Goals as goal

pub returns-then-is_odd : goal.returns-then-is_odd
returns-then-is_odd c = record {
  before = _;
  behind = _;
  split = split_at c.args.all.now c.loop-stretch.stretch-index _ c.loop-stretch-test.true;
  agree = c.loop-stretch.invariant;
  odd = c.is_odd.ensures.odd c.if-is_odd.true;
}

pub loop-stretch-preserved : goal.loop-stretch-preserved
loop-stretch-preserved c = all_more agrees c.args.all.now c.loop-stretch.stretch-index _ c.loop-stretch-test.true c.loop-stretch.invariant
    (c.is_odd.ensures.same c.if-is_odd.false)

pub returns : goal.returns
returns c = all_whole agrees c.args.all.now c.loop-stretch.stretch-index (omega (arith, c.loop-stretch-test.false)) c.loop-stretch.invariant
