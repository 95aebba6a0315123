-- Each half has fewer split blocks.
use Rattle.prefix_tree.specs.Counts.{splits}
use Rattle.entry_planner.proofs.costs.+add_costs.Given as goal

abbrev pub decreases-add_costs : goal.decreases-add_costs
decreases-add_costs g l = splits (g.H.Halving.shape l.block.now)
