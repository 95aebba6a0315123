-- The number and the sets are those of the split block.
use Rattle.std.proofs.Common.{true, false, refl, sym, ◌∙◌, arith}
use Rattle.entry_planner.proofs.BlockCosts.{split_cost_is}
use Rattle.entry_planner.proofs.costs.cost_of_split.Goals as goal

pub returns-then-is_empty-clause-cost : goal.returns-then-is_empty-clause-cost
returns-then-is_empty-clause-cost c = λ low high l u.
    split_cost_is low high c.args.lower c.args.upper _ _ _ true c.intersection-both.ensures c.union-either.ensures
    (sym c.if-is_empty.true ∙ c.is_empty.ensures) refl l u

pub returns-else-is_empty-clause-cost : goal.returns-else-is_empty-clause-cost
returns-else-is_empty-clause-cost c = λ low high l u.
    split_cost_is low high c.args.lower c.args.upper _ _ _ false c.intersection-both.ensures c.union-either.ensures
    (sym c.if-is_empty.false ∙ c.is_empty.ensures) (omega arith) l u
