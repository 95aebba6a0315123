-- Each clause is what the whole tree's placing says.
use Rattle.prefix_tree.specs.Trees.{view_of_tree}
use Rattle.prefix_tree.proofs.Meant.{own_means}
use Rattle.entry_planner.proofs.Whole.{made_is, promised}
use Rattle.entry_planner.proofs.plans.plan.Goals as goal

pub returns : goal.returns
returns c =
    let p = promised (view_of_tree c.args.tree.now) c.args.tree.now _ _ (own_means c.args.tree.now c.root.ensures.fits) c.root.ensures.shape
    (made_is _ _ _ c.in_ok-plan.ensures c.in_ok-packed.ensures) in
    record {
      fewest = p.fewest;
      pages = p.pages;
      order = p.order;
      choice = p.choice;
      costs = p.costs;
      branches = p.branches;
      bound = p.bound;
      root = p.root;
    }
