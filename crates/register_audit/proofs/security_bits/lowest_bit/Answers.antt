use Rattle.std.proofs.Common.{◌∙◌, sym, arith}
use Rattle.register_audit.proofs.LowestBits.{lowest_above, lowest_here, lowest_none}
use Rattle.register_audit.proofs.security_bits.lowest_bit.Goals as goal

pub returns-then-has_bit : goal.returns-then-has_bit
returns-then-has_bit c =
    sym (lowest_here c.args.sort c.args.value c.loop-bit.bit c.loop-bit-test.true (sym c.has_bit.ensures ∙ c.if-has_bit.true)) ∙ c.loop-bit.invariant

pub loop-bit-preserved : goal.loop-bit-preserved
loop-bit-preserved c =
    sym (lowest_above c.args.sort c.args.value c.loop-bit.bit c.loop-bit-test.true (sym c.has_bit.ensures ∙ c.if-has_bit.false)) ∙ c.loop-bit.invariant

pub returns : goal.returns
returns c = sym (lowest_none c.args.sort c.args.value c.loop-bit.bit (omega (arith, c.loop-bit-test.false))) ∙ c.loop-bit.invariant
