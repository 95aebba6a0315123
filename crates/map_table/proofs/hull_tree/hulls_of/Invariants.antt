-- The hulls of the nodes from i on are nested.
use Rattle.std.proofs.Common.{◌≡◌, ◌≤◌, length}
use Rattle.map_table.specs.Hulls.{AreNestedFrom}
use Rattle.map_table.proofs.hull_tree.hulls_of.Given as goal

abbrev pub invariant-loop-i : goal.invariant-loop-i
invariant-loop-i l = record {
  same : length l.hulls.items ≡ length l.leaves;
  inside : l.i ≤ length l.leaves;
  nested : AreNestedFrom l.i l.hulls.items l.leaves;
}

abbrev pub decreases-loop-i : goal.decreases-loop-i
decreases-loop-i l = l.i
