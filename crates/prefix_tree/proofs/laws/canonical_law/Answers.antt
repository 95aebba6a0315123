use Rattle.prefix_tree.proofs.Meant.{one_canonical, splits_mixed}
use Rattle.prefix_tree.proofs.Canonical.{tree_at-canonical, tree_at-means}
use Rattle.prefix_tree.proofs.laws.canonical_law.Goals as goal

pub returns-clause-one : goal.returns-clause-one
returns-clause-one c = λ view a b ca cb ma mb. one_canonical view 44 0 a b ca cb ma mb

pub returns-clause-mixed : goal.returns-clause-mixed
returns-clause-mixed c = λ view tree canonical means. splits_mixed view 44 0 tree canonical means

pub returns-clause-tree : goal.returns-clause-tree
returns-clause-tree c = λ view. (tree_at-canonical view 44 0, tree_at-means view 44 0)
