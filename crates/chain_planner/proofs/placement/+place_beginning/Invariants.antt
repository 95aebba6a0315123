-- Each half is a size smaller.
use Rattle.chain_planner.proofs.placement.+place_beginning.Given as goal

abbrev pub decreases-place_beginning : goal.decreases-place_beginning
decreases-place_beginning l = l.pages.log2
