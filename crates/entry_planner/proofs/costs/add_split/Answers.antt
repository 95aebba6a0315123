-- What is appended is what the split block costs.
use Rattle.std.proofs.Common.{◌++◌, ◌∷◌, [], ap, ◌∙◌}
use Rattle.entry_planner.proofs.BlockCosts.{is_split_block}
use Rattle.entry_planner.proofs.costs.add_split.Goals as goal

pub returns-clause-own : goal.returns-clause-own
returns-clause-own c = λ lower upper l u.
    is_split_block lower upper _ _ (c.cost_of_split-cost.ensures.cost lower upper l u) c.as_block.ensures

pub returns-clause-costs : goal.returns-clause-costs
returns-clause-costs c = λ lower upper l u.
    let is = c.cost_of_split-cost.ensures.cost lower upper l u in
    c.in_ok-push.ensures.items ∙ ap (λ x. c.args.costs.now.items ++ x ∷ []) is
