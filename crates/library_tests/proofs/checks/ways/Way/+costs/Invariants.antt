use Rattle.library_tests.proofs.checks.ways.Way.+costs.Given as goal

abbrev pub decreases-costs : goal.decreases-costs
decreases-costs l = l.log2
