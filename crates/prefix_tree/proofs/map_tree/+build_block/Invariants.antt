use Rattle.prefix_tree.specs.Counts.{splits}
use Rattle.prefix_tree.proofs.map_tree.+build_block.Given as goal

abbrev pub decreases-build_block : goal.decreases-build_block
decreases-build_block l = splits l.block.now
