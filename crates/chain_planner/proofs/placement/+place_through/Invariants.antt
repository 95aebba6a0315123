-- Each half is a size smaller.
use Rattle.chain_planner.proofs.placement.+place_through.Given as goal

abbrev pub decreases-place_through : goal.decreases-place_through
decreases-place_through l = l.pages.log2
