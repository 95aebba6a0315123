use Rattle.std.proofs.Common.{◌≤◌, [], length}
use Rattle.device_tree.specs.Pieces.{parts_of}
use Rattle.device_tree.specs.Nodes.{Nodes}
use Rattle.device_tree.specs.Windows.{path_of}
use Rattle.host_tree.specs.HostTrees.{portion_of}
use Rattle.host_tree.proofs.OneHost.{Reached}
use Rattle.host_tree.proofs.Refused.{Passed}
use Rattle.host_tree.proofs.walk.+put_nodes.Given as goal

abbrev pub decreases-put_nodes : goal.decreases-put_nodes
decreases-put_nodes l = length l.pieces.now

abbrev pub invariant-nodes : goal.invariant-nodes
invariant-nodes l = record {
  len : length l.rest ≤ length l.pieces;
  whole : Reached (λ (x : Nodes). x) (portion_of l.share) l.place l.bus.0.now (path_of l.bus.1.now) (parts_of l.pieces) (parts_of l.rest)
      l.initial.writer l.writer;
  passed : Passed l.place l.bus.0.now (path_of l.bus.1.now) [] (parts_of l.pieces) (parts_of l.rest);
}

abbrev pub decreases-nodes : goal.decreases-nodes
decreases-nodes l = length l.rest
