-- Each half is a size smaller.
use Rattle.chain_planner.proofs.placement.+place_alone.Given as goal

abbrev pub decreases-place_alone : goal.decreases-place_alone
decreases-place_alone l = l.pages.log2
