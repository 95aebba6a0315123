use Rattle.host_tree.proofs.Steps.{Clipped}
use Rattle.host_tree.proofs.platform.clipped.Given as goal

abbrev pub invariant-loop-range : goal.invariant-loop-range
invariant-loop-range l = Clipped l.memory l.ranges l.range-index l.list.items
