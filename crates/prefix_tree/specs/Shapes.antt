-- The shape of a block: its tree without the pointers.
use Rattle.std.specs.Prelude.{◌≡◌, ◌≤◌}
use Rattle.prefix_tree.specs.declared.blocks.Block.{Block, Leaf, Branch'}
use Rattle.prefix_tree.specs.declared.blocks.Summary.{Summary}
use Rattle.prefix_tree.specs.Trees.{PermTree, Uniform, Split, Fits, IsCanonical}
use Rattle.prefix_tree.specs.Counts.{splits, first_perm, last_perm, starts_inside, runs_in}

-- a block without its pointers and counts
abbrev pub shape_of : Block → PermTree
shape_of (Leaf q) = Uniform q
shape_of (Branch' p lower upper summary) = Split (shape_of lower) (shape_of upper)

-- the stored counts of a split block are right
pub record Sums (summary : Summary) (tree : PermTree) : Type 0 where
  pub first : summary.first ≡ first_perm tree
  pub last : summary.last ≡ last_perm tree
  pub starts : summary.starts ≡ starts_inside tree
  pub branches : summary.branches ≡ splits tree

-- the stored counts of every split block are right
abbrev pub IsSummed : Block → Type 0
IsSummed (Leaf q) = Unit {0}
IsSummed (Branch' p lower upper summary) = Sums summary (Split (shape_of lower) (shape_of upper))
    × IsSummed lower × IsSummed upper

-- the root of a tree: the blocks are those of the space, no split block is uniform, and there are
-- at most as many runs as a map may have
pub record IsRoot (root : Block) : Type 0 where
  pub fits : Fits 44 (shape_of root)
  pub canonical : IsCanonical (shape_of root)
  pub few : runs_in (shape_of root) ≤ 4096
  pub summed : IsSummed root
