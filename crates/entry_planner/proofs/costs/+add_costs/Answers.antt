-- The numbers fit, and the lists begin with the last in preorder.
use Rattle.std.proofs.Common.{◌∙◌, sym, ap, arith}
use Rattle.prefix_tree.specs.Counts.{splits}
use Rattle.prefix_tree.proofs.Nested.{splits-chained}
use Rattle.entry_planner.specs.Plans.{block_cost}
use Rattle.entry_planner.proofs.BlockCosts.{chain_small, halves_fit, costs_added}
use Rattle.entry_planner.proofs.costs.+add_costs.Goals as goal

pub add_costs-requires : goal.add_costs-requires
add_costs-requires g t c = λ κs lives.
    let is = c.in-Some-chain.ensures in
    let count = splits-chained _ (g.H.Halving.shape c.in-Some-chain.smallest) c.in-Some-chain.chain is.1 in
    (omega (arith, c.decreases, is.0.some, count), (lives, omega (arith, c.requires, count)))

pub add_chain_costs-requires-clause-small : goal.add_chain_costs-requires-clause-small
add_chain_costs-requires-clause-small g t c =
    chain_small _ (g.H.Halving.shape c.in-Some-chain.smallest) c.in-Some-chain.chain _ c.in-Some-chain.ensures.1 c.requires c.in_ok-cost.ensures.own

pub add_costs-requires-2 : goal.add_costs-requires-2
add_costs-requires-2 g t c =
    λ κs lives. (omega (arith, c.decreases, ap splits c.halves-lower.ensures), (lives, omega (arith, c.requires, ap splits c.halves-lower.ensures)))

pub add_costs-requires-3 : goal.add_costs-requires-3
add_costs-requires-3 g t c =
    λ κs lives. (omega (arith, c.decreases, ap splits c.halves-lower.ensures), (lives, omega (arith, c.requires, ap splits c.halves-lower.ensures)))

pub add_split-requires : goal.add_split-requires
add_split-requires g t c = omega (arith, halves_fit _ _ _ _ _ c.halves-lower.ensures c.requires c.in_ok-low.ensures.own c.in_ok-high.ensures.own)

pub returns-clause-own : goal.returns-clause-own
returns-clause-own g t c = c.in_ok-cost-3.ensures.own _ _ c.in_ok-low.ensures.own c.in_ok-high.ensures.own ∙ ap block_cost (sym c.halves-lower.ensures)

pub returns-clause-costs : goal.returns-clause-costs
returns-clause-costs g t c =
    costs_added _ _ _ _ _ _ _ c.halves-lower.ensures c.in_ok-high.ensures.costs c.in_ok-low.ensures.costs
    (c.in_ok-cost-3.ensures.costs _ _ c.in_ok-low.ensures.own c.in_ok-high.ensures.own)
