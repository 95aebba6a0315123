-- One level fewer is left.
use Rattle.chain_planner.proofs.chain_plan.+lowest_part.Given as goal

abbrev pub decreases-lowest_part : goal.decreases-lowest_part
decreases-lowest_part g l = l.levels
