-- Each kind of plan is the shortest where it is the cheapest.
use Rattle.std.proofs.Common.{sym, subst, arith}
use Rattle.pmp_encoding.specs.Views.{View}
use Rattle.prefix_tree.specs.Trees.{Fits, TreeMeansAt}
use Rattle.permission_map.specs.Runs.{view_of_runs}
use Rattle.chain_planner.specs.Chained.{space_log2}
use Rattle.chain_planner.specs.ChainPlans.{IsAlone, IsPassing, IsBeginning, list_of}
use Rattle.chain_planner.specs.Choices.{AreCosts, tree_in}
use Rattle.chain_planner.proofs.Bounded.{costs_small}
use Rattle.chain_planner.proofs.Planned.{means_fits, alone_fewest, passing_fewest, beginning_fewest, space_means}
use Rattle.chain_planner.proofs.chain_plan.ChainPlan.of.Goals as goal

pub cheapest-requires : goal.cheapest-requires
cheapest-requires c =
    costs_small c.in_ok-block.costs c.lowest_part-space.result c.in_ok-block.ensures.costs
    (omega (arith, c.lowest_part-space.ensures.splits, c.of.ensures.splits, c.of.ensures.most))

pub alone-requires-clause-fits : goal.alone-requires-clause-fits
alone-requires-clause-fits c =
    let view : View = view_of_runs c.args.map.now in
    let part : TreeMeansAt view (space_log2 c.args.xlen) 0 c.lowest_part-space.result =
    space_means view c.of.result c.lowest_part-space.result (space_log2 c.args.xlen) c.space_log2-log2.result c.of.ensures.tree
    c.space_log2-log2.ensures.value c.space_log2-log2.ensures.most c.lowest_part-space.ensures.means in
    let means : TreeMeansAt view (space_log2 c.args.xlen) 0 (tree_in c.in_ok-block.block) =
    subst (λ t. TreeMeansAt view (space_log2 c.args.xlen) 0 t) (sym c.in_ok-block.ensures.tree) part in
    subst (λ k. Fits k (tree_in c.in_ok-block.block)) (sym c.space_log2-log2.ensures.value)
    (means_fits view (space_log2 c.args.xlen) 0 (tree_in c.in_ok-block.block) means)

pub passing-requires-clause-fits : goal.passing-requires-clause-fits
passing-requires-clause-fits c =
    let view : View = view_of_runs c.args.map.now in
    let part : TreeMeansAt view (space_log2 c.args.xlen) 0 c.lowest_part-space.result =
    space_means view c.of.result c.lowest_part-space.result (space_log2 c.args.xlen) c.space_log2-log2.result c.of.ensures.tree
    c.space_log2-log2.ensures.value c.space_log2-log2.ensures.most c.lowest_part-space.ensures.means in
    let means : TreeMeansAt view (space_log2 c.args.xlen) 0 (tree_in c.in_ok-block.block) =
    subst (λ t. TreeMeansAt view (space_log2 c.args.xlen) 0 t) (sym c.in_ok-block.ensures.tree) part in
    subst (λ k. Fits k (tree_in c.in_ok-block.block)) (sym c.space_log2-log2.ensures.value)
    (means_fits view (space_log2 c.args.xlen) 0 (tree_in c.in_ok-block.block) means)

pub beginning-requires-clause-fits : goal.beginning-requires-clause-fits
beginning-requires-clause-fits c =
    let view : View = view_of_runs c.args.map.now in
    let part : TreeMeansAt view (space_log2 c.args.xlen) 0 c.lowest_part-space.result =
    space_means view c.of.result c.lowest_part-space.result (space_log2 c.args.xlen) c.space_log2-log2.result c.of.ensures.tree
    c.space_log2-log2.ensures.value c.space_log2-log2.ensures.most c.lowest_part-space.ensures.means in
    let means : TreeMeansAt view (space_log2 c.args.xlen) 0 (tree_in c.in_ok-block.block) =
    subst (λ t. TreeMeansAt view (space_log2 c.args.xlen) 0 t) (sym c.in_ok-block.ensures.tree) part in
    subst (λ k. Fits k (tree_in c.in_ok-block.block)) (sym c.space_log2-log2.ensures.value)
    (means_fits view (space_log2 c.args.xlen) 0 (tree_in c.in_ok-block.block) means)

pub returns-in-Alone : goal.returns-in-Alone
returns-in-Alone c = λ none.
    let view : View = view_of_runs c.args.map.now in
    let part : TreeMeansAt view (space_log2 c.args.xlen) 0 c.lowest_part-space.result =
    space_means view c.of.result c.lowest_part-space.result (space_log2 c.args.xlen) c.space_log2-log2.result c.of.ensures.tree
    c.space_log2-log2.ensures.value c.space_log2-log2.ensures.most c.lowest_part-space.ensures.means in
    let means : TreeMeansAt view (space_log2 c.args.xlen) 0 (tree_in c.in_ok-block.block) =
    subst (λ t. TreeMeansAt view (space_log2 c.args.xlen) 0 t) (sym c.in_ok-block.ensures.tree) part in
    let costs : AreCosts c.in_ok-block.costs (tree_in c.in_ok-block.block) =
    subst (λ t. AreCosts c.in_ok-block.costs t) (sym c.in_ok-block.ensures.tree) c.in_ok-block.ensures.costs in
    alone_fewest c.args.xlen c.args.place view (tree_in c.in_ok-block.block) (list_of c.in_ok-plan-in-Alone.plan) means none
    (c.in-Alone.ensures (tree_in c.in_ok-block.block) costs)
    (subst (λ k. IsAlone k (tree_in c.in_ok-block.block) (list_of c.in_ok-plan-in-Alone.plan)) c.space_log2-log2.ensures.value c.in_ok-plan-in-Alone.ensures)

pub returns-in-Passes : goal.returns-in-Passes
returns-in-Passes c = λ none.
    let view : View = view_of_runs c.args.map.now in
    let part : TreeMeansAt view (space_log2 c.args.xlen) 0 c.lowest_part-space.result =
    space_means view c.of.result c.lowest_part-space.result (space_log2 c.args.xlen) c.space_log2-log2.result c.of.ensures.tree
    c.space_log2-log2.ensures.value c.space_log2-log2.ensures.most c.lowest_part-space.ensures.means in
    let means : TreeMeansAt view (space_log2 c.args.xlen) 0 (tree_in c.in_ok-block.block) =
    subst (λ t. TreeMeansAt view (space_log2 c.args.xlen) 0 t) (sym c.in_ok-block.ensures.tree) part in
    let costs : AreCosts c.in_ok-block.costs (tree_in c.in_ok-block.block) =
    subst (λ t. AreCosts c.in_ok-block.costs t) (sym c.in_ok-block.ensures.tree) c.in_ok-block.ensures.costs in
    passing_fewest c.args.xlen c.args.place view (tree_in c.in_ok-block.block) c.in-Passes.first (list_of c.in_ok-plan-in-Passes.plan) means none
    (c.in-Passes.ensures (tree_in c.in_ok-block.block) costs)
    (subst (λ k. IsPassing k c.in-Passes.first (tree_in c.in_ok-block.block) (list_of c.in_ok-plan-in-Passes.plan))
    c.space_log2-log2.ensures.value c.in_ok-plan-in-Passes.ensures)

pub returns : goal.returns
returns c = λ none.
    let view : View = view_of_runs c.args.map.now in
    let part : TreeMeansAt view (space_log2 c.args.xlen) 0 c.lowest_part-space.result =
    space_means view c.of.result c.lowest_part-space.result (space_log2 c.args.xlen) c.space_log2-log2.result c.of.ensures.tree
    c.space_log2-log2.ensures.value c.space_log2-log2.ensures.most c.lowest_part-space.ensures.means in
    let means : TreeMeansAt view (space_log2 c.args.xlen) 0 (tree_in c.in_ok-block.block) =
    subst (λ t. TreeMeansAt view (space_log2 c.args.xlen) 0 t) (sym c.in_ok-block.ensures.tree) part in
    let costs : AreCosts c.in_ok-block.costs (tree_in c.in_ok-block.block) =
    subst (λ t. AreCosts c.in_ok-block.costs t) (sym c.in_ok-block.ensures.tree) c.in_ok-block.ensures.costs in
    beginning_fewest c.args.xlen c.args.place view (tree_in c.in_ok-block.block) (list_of c.in_ok-plan-in-Begins.plan) means none
    (c.in-Begins.ensures (tree_in c.in_ok-block.block) costs)
    (subst (λ k. IsBeginning k (tree_in c.in_ok-block.block) (list_of c.in_ok-plan-in-Begins.plan))
    c.space_log2-log2.ensures.value c.in_ok-plan-in-Begins.ensures)
