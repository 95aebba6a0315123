-- The tree is that of the map's view, which has as many runs as the map.
use Rattle.std.proofs.Common.{◌∙◌, sym, subst, ap, arith}
use Rattle.prefix_tree.specs.Trees.{PermTree, Fits}
use Rattle.prefix_tree.specs.Counts.{runs_in}
use Rattle.prefix_tree.proofs.Canonical.{map_means, map_canonical}
use Rattle.prefix_tree.proofs.trees.build.Goals as goal

pub invariant_of-result : goal.invariant_of-result
invariant_of-result c =
    let shape = c.in_ok-root.ensures.shape in
    record {
      fits = subst (λ (t : PermTree). Fits 44 t) (sym shape) c.of.ensures.fits;
      canonical = map_canonical _ _ (shape ∙ c.of.ensures.tree);
      few = omega (arith, ap runs_in shape, c.of.ensures.runs, c.of.ensures.most);
      summed = c.in_ok-root.ensures.summed;
    }

pub returns-clause-means : goal.returns-clause-means
returns-clause-means c = map_means _ _ (c.in_ok-root.ensures.shape ∙ c.of.ensures.tree)

pub returns-clause-canonical : goal.returns-clause-canonical
returns-clause-canonical c = map_canonical _ _ (c.in_ok-root.ensures.shape ∙ c.of.ensures.tree)
