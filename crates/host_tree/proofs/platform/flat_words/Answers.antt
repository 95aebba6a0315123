use Rattle.std.proofs.Common.{arith}
use Rattle.host_tree.proofs.Pairs.{flat_all}
use Rattle.host_tree.proofs.platform.flat_words.Goals as goal

pub returns-clause-len : goal.returns-clause-len
returns-clause-len c = flat_all c.args.ranges.now c.loop-range.words.items c.loop-range.range-index (omega arith) c.loop-range.invariant
