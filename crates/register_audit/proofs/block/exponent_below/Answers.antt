use Rattle.std.proofs.Common.{◌∙◌, ◌≢◌, ◌^◌, sym}
use Rattle.register_audit.proofs.Exponents.{exponent_here, exponent_step, other_up_to}
use Rattle.register_audit.proofs.block.exponent_below.Goals as goal

pub loop-log2-preserved : goal.loop-log2-preserved
loop-log2-preserved c =
    let other : c.args.size ≢ 2 ^ c.loop-log2.log2 = λ same. c.if-size-power.false (same ∙ sym c.power.ensures) in
    record {
      from = exponent_step c.loop-log2.log2 c.args.end c.args.size c.loop-log2-test.true other ∙ c.loop-log2.invariant.from;
      other = other_up_to c.loop-log2.log2 c.args.size c.loop-log2.invariant.other other;
    }

pub returns-then-size-power-clause-value : goal.returns-then-size-power-clause-value
returns-then-size-power-clause-value c =
    let same = c.if-size-power.true ∙ c.power.ensures in
    exponent_here c.loop-log2.log2 c.args.end c.args.size c.loop-log2-test.true same ∙ c.loop-log2.invariant.from
