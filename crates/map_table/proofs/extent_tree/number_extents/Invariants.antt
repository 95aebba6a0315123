-- The extents so far, with their numbers.
use Rattle.std.proofs.Common.{◌≡◌, ◌++◌, drop}
use Rattle.map_table.specs.Hulls.{numbered}
use Rattle.map_table.proofs.extent_tree.number_extents.Given as goal

abbrev pub invariant-loop-i : goal.invariant-loop-i
invariant-loop-i l = l.all.items ++ numbered l.i (drop l.i l.extents) ≡ numbered 0 l.extents
