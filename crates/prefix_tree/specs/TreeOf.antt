-- The canonical tree of a view.
use Rattle.std.specs.Prelude.{ℕ, zero, suc, ◌+◌, ◌^◌}
use Rattle.pmp_encoding.specs.declared.perm.Perm.{Perm}
use Rattle.prefix_tree.specs.Trees.{PermTree, Uniform}
use Rattle.prefix_tree.specs.Joined.{joined}

-- the canonical tree of the 2 ^ k pages from `first` on: one page has its permission, and a larger
-- block is joined from its two halves
unfoldable pub tree_at : (ℕ → Perm) → ℕ → ℕ → PermTree
tree_at view zero first = Uniform (view first)
tree_at view (suc k) first = joined (tree_at view k first) (tree_at view k (first + 2 ^ k))

-- the canonical tree of the whole space
abbrev pub tree_of : (ℕ → Perm) → PermTree
tree_of view = tree_at view 44 0
