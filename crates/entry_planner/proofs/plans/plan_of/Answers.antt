-- The entries and the costs are those of the space.
use Rattle.std.proofs.Common.{arith}
use Rattle.entry_planner.proofs.BlockCosts.{least_small}
use Rattle.entry_planner.proofs.Whole.{made, made_is, chosen_listed, are_small}
use Rattle.entry_planner.proofs.plans.plan_of.Goals as goal

pub add_costs-requires : goal.add_costs-requires
add_costs-requires g c = omega (arith, c.requires.splits, c.requires.most)

pub overflow_add-cost : goal.overflow_add-cost
overflow_add-cost g c =
    let tree = g.H.Halving.shape c.args.root.now in
    omega (arith, least_small tree c.in_ok-cost.cost (omega (arith, c.requires.splits, c.requires.most)) c.in_ok-cost.ensures.own)

pub entries_of-requires-clause-fits : goal.entries_of-requires-clause-fits
entries_of-requires-clause-fits g c = c.requires.fits

pub new-requires : goal.new-requires
new-requires g c =
    let m = made _ _ _ _ c.in_ok-entries.ensures.chosen c.in_ok-entries.ensures.order c.in_ok-costs.ensures.items c.in_ok-cost.ensures.costs in
    are_small _ _ _ (omega (arith, c.requires.splits, c.requires.most)) (chosen_listed _ _ m.chosen) m.costs

pub returns : goal.returns
returns g c =
    made_is _ _ _ c.new.ensures (made _ _ _ _ c.in_ok-entries.ensures.chosen c.in_ok-entries.ensures.order c.in_ok-costs.ensures.items
    c.in_ok-cost.ensures.costs)
