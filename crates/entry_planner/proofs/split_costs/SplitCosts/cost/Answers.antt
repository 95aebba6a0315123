-- The block is the i-th of the list, which is kept with the last first.
use Rattle.std.proofs.Common.{◌∙◌, ◌+◌, ◌^◌, ◌<◌, All, ap, subst, sym}
use Rattle.entry_planner.specs.declared.costs.BlockCost.{BlockCost}
use Rattle.entry_planner.specs.Plans.{cost_of}
use Rattle.entry_planner.proofs.CostLists.{cost_in-is, least_small}
use Rattle.entry_planner.proofs.split_costs.SplitCosts.cost.Goals as goal

pub under-requires : goal.under-requires
under-requires c =
    let P : BlockCost → Type 0 = λ b. b.least + 1 < 2 ^ 32 in
    subst P (sym c.as_block.ensures)
    (least_small _ _ c.args.i _ c.index.result.now c.self.view_is (subst (All P) c.self.view_is c.self.invariant) c.branches-last.ensures c.requires
    c.index.ensures)

pub returns : goal.returns
returns c =
    cost_in-is _ _ c.args.i _ c.under.result c.index.result.now c.args.perm c.self.view_is c.branches-last.ensures c.requires c.index.ensures
    (c.under.ensures ∙ ap (λ b. cost_of b c.args.perm) c.as_block.ensures)
