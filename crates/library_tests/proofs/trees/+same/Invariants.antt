use Rattle.library_tests.proofs.trees.+same.Given as goal

abbrev pub decreases-same : goal.decreases-same
decreases-same l = l.height
