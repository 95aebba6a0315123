-- Each clause is what the placing says of the canonical tree of the map's view.
use Rattle.std.proofs.Common.{ap, arith}
use Rattle.prefix_tree.specs.Counts.{splits}
use Rattle.permission_map.specs.Runs.{view_of_runs}
use Rattle.prefix_tree.specs.TreeOf.{tree_of}
use Rattle.prefix_tree.proofs.Canonical.{tree_at-means}
use Rattle.entry_planner.proofs.Whole.{promised}
use Rattle.entry_planner.proofs.plans.plan_map.Goals as goal

pub returns : goal.returns
returns c =
    let view = view_of_runs c.args.map.now in
    let p = promised view (tree_of view) _ _ (tree_at-means view 44 0) c.of.ensures.tree c.in_ok-plan.ensures in
    record {
      fewest = p.fewest;
      pages = p.pages;
      order = p.order;
      choice = p.choice;
      costs = p.costs;
      branches = p.branches;
      most = omega (arith, p.branches, ap splits c.of.ensures.tree, c.of.ensures.splits, c.of.ensures.most);
      bound = p.bound;
      root = p.root;
    }
