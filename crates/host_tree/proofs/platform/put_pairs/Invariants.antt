use Rattle.std.proofs.Common.{◌≡◌, ◌++◌}
use Rattle.host_tree.specs.Platforms.{pairs_in}
use Rattle.host_tree.proofs.platform.put_pairs.Given as goal

abbrev pub invariant-pairs : goal.invariant-pairs
invariant-pairs l = l.list.items ++ pairs_in l.left l.rest ≡ l.initial.list.items ++ pairs_in l.count l.words

abbrev pub decreases-pairs : goal.decreases-pairs
decreases-pairs l = l.left
