-- Each leaf before this one is past.
use Rattle.std.proofs.Common.{◌≤◌, ◌+◌, ◌*◌, ◌-◌, ◌^◌, length}
use Rattle.map_table.specs.Hulls.{AllPast}
use Rattle.map_table.proofs.hull_tree.HullTree.next_leaf.Given as goal

abbrev pub invariant-loop-leaf : goal.invariant-loop-leaf
invariant-loop-leaf l = record {
  begun : length l.self + l.from ≤ l.leaf;
  some : 2 ^ l.height ≤ l.leaf;
  past : AllPast l.self l.from (l.leaf - length l.self) l.bound l.first l.end;
}

abbrev pub decreases-loop-leaf : goal.decreases-loop-leaf
decreases-loop-leaf l = 2 * (2 * length l.self - l.leaf) + l.height
