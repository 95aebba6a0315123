use Rattle.prefix_tree.proofs.overwrite.+overwritten_block.Given as goal

abbrev pub decreases-overwritten_block : goal.decreases-overwritten_block
decreases-overwritten_block l = l.height
