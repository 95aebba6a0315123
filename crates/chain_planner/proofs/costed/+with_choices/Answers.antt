-- A half's tree is that half's, and the costs fit.
use Rattle.std.proofs.Common.{◌≡◌, ap, sym, subst, arith}
use Rattle.prefix_tree.specs.Counts.{splits}
use Rattle.prefix_tree.specs.Trees.{PermTree, Uniform}
use Rattle.chain_planner.specs.declared.costed.Costed.{Costed}
use Rattle.chain_planner.specs.declared.choices.Choices.{Choices}
use Rattle.chain_planner.specs.Choices.{AreChoices, AreCosts, IsCosted, tree_in}
use Rattle.chain_planner.proofs.Bounded.{costs_small, uniform_is}
use Rattle.chain_planner.proofs.costed.+with_choices.Goals as goal

pub with_choices-requires : goal.with_choices-requires
with_choices-requires g t c =
    λ κs lives. (omega (arith, c.decreases, ap splits c.halves-lower.ensures), (lives, omega (arith, c.requires, ap splits c.halves-lower.ensures)))

pub with_choices-requires-2 : goal.with_choices-requires-2
with_choices-requires-2 g t c =
    λ κs lives. (omega (arith, c.decreases, ap splits c.halves-lower.ensures), (lives, omega (arith, c.requires, ap splits c.halves-lower.ensures)))

pub returns-in-Some-clause-costs : goal.returns-in-Some-clause-costs
returns-in-Some-clause-costs g t c =
    let Are : PermTree → Type 0 = λ tree. AreCosts c.uniform_costs.result tree in
    let tree : PermTree = g.H.Halving.shape c.args.block.now in
    let is : g.H.Halving.shape c.args.block.now ≡ Uniform c.in-Some.perm = uniform_is tree c.in-Some.perm (sym c.in-Some.ensures) in
    subst Are (sym is) c.uniform_costs.ensures

pub join-joined-requires-clause-low : goal.join-joined-requires-clause-low
join-joined-requires-clause-low g t c =
    costs_small c.in_ok-low.low_costs (g.H.Halving.shape c.halves-lower.result.0) c.in_ok-low.ensures.costs
    (omega (arith, c.requires, ap splits c.halves-lower.ensures))

pub join-joined-requires-clause-high : goal.join-joined-requires-clause-high
join-joined-requires-clause-high g t c =
    costs_small c.in_ok-high.high_costs (g.H.Halving.shape c.halves-lower.result.1) c.in_ok-high.ensures.costs
    (omega (arith, c.requires, ap splits c.halves-lower.ensures))

pub returns-clause-choices : goal.returns-clause-choices
returns-clause-choices g t c =
    let Has : Costed × Costed × Choices → Type 0 = λ v. AreChoices v.2 (tree_in v.0) (tree_in v.1) × IsCosted v.0 × IsCosted v.1 in
    let low : AreCosts c.in_ok-low.low_costs (tree_in c.in_ok-low.low) = rw (c.in_ok-low.ensures.tree) c.in_ok-low.ensures.costs in
    let high : AreCosts c.in_ok-high.high_costs (tree_in c.in_ok-high.high) = rw (c.in_ok-high.ensures.tree) c.in_ok-high.ensures.costs in
    subst Has (sym c.in_ok-halves.ensures.ok)
    (c.join-joined.ensures.choices (tree_in c.in_ok-low.low) (tree_in c.in_ok-high.high) low high, c.in_ok-low.ensures.choices, c.in_ok-high.ensures.choices)

pub returns-clause-costs : goal.returns-clause-costs
returns-clause-costs g t c =
    let Are : PermTree → Type 0 = λ tree. AreCosts c.join-joined.result.costs tree in
    subst Are (sym c.halves-lower.ensures)
    (c.join-joined.ensures.costs (g.H.Halving.shape c.halves-lower.result.0) (g.H.Halving.shape c.halves-lower.result.1) c.in_ok-low.ensures.costs
    c.in_ok-high.ensures.costs)
