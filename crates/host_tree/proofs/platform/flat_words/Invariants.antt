use Rattle.std.proofs.Common.{◌≡◌, ◌++◌, drop}
use Rattle.host_tree.specs.Platforms.{flat_words}
use Rattle.host_tree.proofs.platform.flat_words.Given as goal

abbrev pub invariant-loop-range : goal.invariant-loop-range
invariant-loop-range l = l.words.items ++ flat_words (drop l.range-index l.ranges) ≡ flat_words l.ranges
