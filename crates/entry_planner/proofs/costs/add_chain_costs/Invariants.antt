-- The blocks up to the level are done.
use Rattle.entry_planner.proofs.ChainCosts.{IsRaised}
use Rattle.entry_planner.proofs.costs.add_chain_costs.Given as goal

abbrev pub invariant-loop-level : goal.invariant-loop-level
invariant-loop-level l = record {
  raised : IsRaised l.fn.chain l.rest l.level l.fn.smallest l.cost l.fn.costs.items l.costs.items;
}
