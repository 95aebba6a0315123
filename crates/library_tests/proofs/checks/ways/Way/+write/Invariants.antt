use Rattle.library_tests.proofs.checks.ways.Way.+write.Given as goal

abbrev pub decreases-write : goal.decreases-write
decreases-write l = l.log2
