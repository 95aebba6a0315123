use Rattle.std.proofs.Common.{◌≤◌, length}
use Rattle.device_tree.specs.Pieces.{parts_of}
use Rattle.device_tree.specs.Windows.{path_of}
use Rattle.device_tree.specs.Meaning.{said_of}
use Rattle.device_tree.proofs.OneNode.{Reached}
use Rattle.device_tree.proofs.NoRanges.{Passed}
use Rattle.device_tree.proofs.nodes.+note_nodes.Given as goal

abbrev pub decreases-note_nodes : goal.decreases-note_nodes
decreases-note_nodes l = length l.pieces.now

abbrev pub invariant-nodes : goal.invariant-nodes
invariant-nodes l = record {
  len : length l.rest ≤ length l.pieces;
  passed : Passed l.place l.bus.0.now (path_of l.bus.1.now) l.pieces l.rest;
  whole : Reached l.place l.bus.0.now (path_of l.bus.1.now) (parts_of l.pieces) (parts_of l.rest) (said_of l.initial.found.items) (said_of l.found.items);
}

abbrev pub decreases-nodes : goal.decreases-nodes
decreases-nodes l = length l.rest
