-- Each half is a size smaller.
use Rattle.chain_planner.proofs.placement.+place_own.Given as goal

abbrev pub decreases-place_own : goal.decreases-place_own
decreases-place_own l = l.pages.log2
