use Rattle.input_files.specs.Costs.{AreCosts}
use Rattle.input_files.proofs.line_costs.costs_of.Given as goal

abbrev pub invariant-loop-i : goal.invariant-loop-i
invariant-loop-i l = AreCosts l.settings l.i l.costs.items
