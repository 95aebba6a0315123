-- Each half has fewer split blocks.
use Rattle.prefix_tree.specs.Counts.{splits}
use Rattle.chain_planner.proofs.costed.+with_choices.Given as goal

abbrev pub decreases-with_choices : goal.decreases-with_choices
decreases-with_choices g l = splits (g.H.Halving.shape l.block.now)
