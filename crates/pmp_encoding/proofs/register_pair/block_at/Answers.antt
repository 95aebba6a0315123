-- The address ends in the ones that are counted, and the block is the one round its first byte.
use Rattle.std.proofs.Common.{◌+◌, ◌*◌, arith}
use Rattle.pmp_encoding.proofs.Trailing.{HasTrailingOnes, trailing_is, block_round, block_holds}
use Rattle.pmp_encoding.proofs.register_pair.block_at.Goals as goal

pub returns-then-ones-ge53 : goal.returns-then-ones-ge53
returns-then-ones-ge53 c =
    let t : HasTrailingOnes c.args.address c.trailing_ones-ones.result = rw c.trailing_ones-ones.ensures (trailing_is c.args.address c.requires) in
    (c.trailing_ones-ones.result, t.above, t.split, omega arith, (omega arith, omega arith))

pub invariant_of-result-2 : goal.invariant_of-result-2
invariant_of-result-2 c =
    record {
      block = rw c.bytes_of-size.ensures.value (block_round (4 * c.args.address) (c.trailing_ones-ones.result + 3) (omega arith) (omega arith) (omega arith));
    }

pub returns : goal.returns
returns c = let t : HasTrailingOnes c.args.address c.trailing_ones-ones.result = rw c.trailing_ones-ones.ensures (trailing_is c.args.address c.requires) in (
  c.trailing_ones-ones.result,
  t.above,
  t.split,
  omega arith,
  rw c.bytes_of-size.ensures.value (block_holds (4 * c.args.address) (c.trailing_ones-ones.result + 3)),
)
