-- The runs of the map meet the whole space.
use Rattle.std.proofs.Common.{List, ap, arith}
use Rattle.pmp_encoding.specs.declared.perm.Perm.TheVariants.{NoAccess}
use Rattle.permission_map.specs.declared.runs.Run.{Run}
use Rattle.permission_map.specs.Runs.{view_of_runs}
use Rattle.prefix_tree.specs.TreeOf.{tree_of}
use Rattle.prefix_tree.proofs.Canonical.{map_fits, map_runs, map_splits}
use Rattle.prefix_tree.proofs.Cut.{runs_meet}
use Rattle.prefix_tree.proofs.map_blocks.MapBlock.of.Goals as goal

pub invariant_of-result : goal.invariant_of-result
invariant_of-result c =
    let are = rw (← c.ranges-2.ensures.value) at c.ranges-2.ensures.runs in
    record { low = omega arith; inside = omega arith; are_runs = are; meet = runs_meet 0 NoAccess c.ranges-2.result.now are }

pub returns-clause-tree : goal.returns-clause-tree
returns-clause-tree c = ap (λ (runs : List Run). tree_of (view_of_runs runs)) c.ranges-2.ensures.value

pub returns-clause-fits : goal.returns-clause-fits
returns-clause-fits c = map_fits _ _ (returns-clause-tree c)

pub returns-clause-runs : goal.returns-clause-runs
returns-clause-runs c = map_runs _ _ (returns-clause-tree c) c.ranges-2.ensures.runs

pub returns-clause-splits : goal.returns-clause-splits
returns-clause-splits c = map_splits _ _ (returns-clause-tree c) c.ranges-2.ensures.runs
