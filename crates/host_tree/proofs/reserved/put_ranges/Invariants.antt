use Rattle.host_tree.proofs.Steps.{Ranged}
use Rattle.host_tree.proofs.reserved.put_ranges.Given as goal

abbrev pub invariant-loop-range : goal.invariant-loop-range
invariant-loop-range l = Ranged l.cells l.ranges l.range-index l.initial.writer l.writer
