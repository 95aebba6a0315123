use Rattle.std.proofs.Common.{length}
use Rattle.device_tree.specs.Pieces.{parts_of}
use Rattle.device_tree.specs.declared.kinds.Place.TheVariants.{BelowRoot}
use Rattle.device_tree.specs.Windows.{same}
use Rattle.host_tree.specs.HostTrees.{portion_of}
use Rattle.host_tree.specs.Ranges.{with_ranges}
use Rattle.host_tree.proofs.OneHost.{Reached}
use Rattle.host_tree.proofs.Refused.{Passed}
use Rattle.host_tree.proofs.root.put_children.Given as goal

abbrev pub invariant-nodes : goal.invariant-nodes
invariant-nodes l = record {
  whole : Reached (with_ranges l.cells l.ranges) (portion_of l.share) BelowRoot l.cells same (parts_of l.pieces) (parts_of l.rest)
      l.initial.writer l.writer;
  passed : Passed BelowRoot l.cells same l.ranges (parts_of l.pieces) (parts_of l.rest);
}

abbrev pub decreases-nodes : goal.decreases-nodes
decreases-nodes l = length l.rest
