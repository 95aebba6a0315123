-- The table has it.
use Rattle.entry_planner.proofs.MoreCosts.{MORE_at, MORE_most}
use Rattle.entry_planner.proofs.costs.more_under.Goals as goal

pub returns-clause-value : goal.returns-clause-value
returns-clause-value c = rw (c.index.ensures.value) (MORE_at c.args.best.bits c.args.perm)

pub returns-clause-most : goal.returns-clause-most
returns-clause-most c = rw (c.index.ensures.value) (MORE_most c.args.best.bits c.args.perm)
