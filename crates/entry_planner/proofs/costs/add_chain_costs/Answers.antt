-- The lists grow by the split block of each level, whose halves are taken with the one beside the chain first.
use Rattle.std.proofs.Common.{◌≡◌, ◌%◌, ◌∙◌, ◌∷◌, [], ◌++◌, ap, arith, reverse, eq-zero-or-pos, inl, inr}
use Rattle.entry_planner.specs.SplitCosts.{splits_in}
use Rattle.entry_planner.specs.Plans.{block_cost}
use Rattle.entry_planner.proofs.BlockCosts.{turned_cost, turned_split}
use Rattle.entry_planner.proofs.ChainCosts.{begun, raised_upper, raised_lower, raised_whole}
use Rattle.entry_planner.proofs.costs.add_chain_costs.Goals as goal

pub loop-level-init : goal.loop-level-init
loop-level-init c = record { raised = begun _ _ _ }

pub add_split-requires : goal.add_split-requires
add_split-requires c =
    let few = c.loop-level.invariant.raised.few in
    let inside = c.loop-level-test.true in
    elim (eq-zero-or-pos (c.loop-level.rest % 2)) [
      | inl even ↦
          let beside = c.sibling_of.ensures.lower even ∙ c.cost_of_uniform-behind.ensures in
          omega (arith, ap (λ x. x.least) beside, few, inside, c.requires.small)
      | inr some ↦
          let beside = c.sibling_of.ensures.upper (omega (arith, some)) ∙ c.cost_of_uniform-before.ensures in
          omega (arith, ap (λ x. x.least) beside, few, inside, c.requires.small)
    ]

pub loop-level-preserved : goal.loop-level-preserved
loop-level-preserved c =
    let l = c.loop-level in
    let s = c.in_ok-cost.ensures in
    elim (eq-zero-or-pos (l.rest % 2)) [
      | inl even ↦
          let beside = c.sibling_of.ensures.lower even in (record {
            raised = raised_lower _ _ _ _ _ _ _ _ _ _ _ (omega (arith, even)) c.cost_of_uniform-behind.ensures l.invariant.raised
                (λ t u is other. s.own u t (beside ∙ other) is ∙ turned_cost u t)
                (λ t u is other. s.costs u t (beside ∙ other) is ∙ ap (λ x. l.costs.items ++ x ∷ []) (turned_split u t))
                (omega (arith, s.most, ap (λ x. x.least) beside));
          })
      | inr some ↦
          let odd : l.rest % 2 ≡ 1 = omega (arith, some) in
          let beside = c.sibling_of.ensures.upper odd in (record {
            raised = raised_upper _ _ _ _ _ _ _ _ _ _ _ (omega (arith, odd)) c.cost_of_uniform-before.ensures l.invariant.raised
                (λ t u is other. s.own t u (beside ∙ is) other)
                (λ t u is other. s.costs t u (beside ∙ is) other)
                (omega (arith, s.most, ap (λ x. x.least) beside));
          })
    ]

pub returns-clause-own : goal.returns-clause-own
returns-clause-own c = λ tree is.
    let r = c.loop-level.invariant.raised in
    r.own tree is ∙ ap block_cost (raised_whole _ _ _ _ _ _ _ c.loop-level.auto.level-end c.loop-level-test.false c.requires.chain.place r tree)

pub returns-clause-costs : goal.returns-clause-costs
returns-clause-costs c = λ tree first is all.
    let r = c.loop-level.invariant.raised in
    r.costs_are tree first is all ∙ ap (λ t. first ++ reverse (splits_in t))
    (raised_whole _ _ _ _ _ _ _ c.loop-level.auto.level-end c.loop-level-test.false c.requires.chain.place r tree)
