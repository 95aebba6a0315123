use Rattle.std.proofs.Common.{◌≡◌, ◌≤◌, ◌-◌, ◌++◌, drop, length}
use Rattle.device_tree.specs.Pieces.{parts_of}
use Rattle.device_tree.specs.Nodes.{Nodes, AreWithin, parts_of_nodes}
use Rattle.device_tree.proofs.nesting.+nodes_len.Given as goal

abbrev pub decreases-nodes_len : goal.decreases-nodes_len
decreases-nodes_len l = l.levels

abbrev pub invariant-nodes : goal.invariant-nodes
invariant-nodes l = record {
  within : l.at ≤ length l.pieces;
  before : (nodes : Nodes) × (parts_of l.pieces ≡ parts_of_nodes nodes ++ drop l.at (parts_of l.pieces)) × AreWithin l.levels nodes;
}

abbrev pub decreases-nodes : goal.decreases-nodes
decreases-nodes l = length l.pieces - l.at
