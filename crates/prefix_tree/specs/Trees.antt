-- Trees of uniform blocks, and the views that they give.
use Rattle.std.specs.Prelude.{◌≡◌, ◌≢◌, ℕ, zero, suc, ◌+◌, ◌-◌, ◌^◌, ◌<◌, cond, ltb}
use Rattle.pmp_encoding.specs.declared.perm.Perm.{Perm}
use Rattle.pmp_encoding.specs.Views.{IsUniform}

-- a uniform block, or one split into a lower and an upper half
pub data PermTree : Type 0 where
  Uniform : Perm → PermTree
  Split : PermTree → PermTree → PermTree

-- the tree gives the 2 ^ k pages from `first` on the view's permissions
abbrev pub TreeMeansAt : (ℕ → Perm) → ℕ → ℕ → PermTree → Type 0
TreeMeansAt view k first (Uniform q) = IsUniform view k first q
TreeMeansAt view zero first (Split lower upper) = ⊥
TreeMeansAt view (suc k) first (Split lower upper) = TreeMeansAt view k first lower
    × TreeMeansAt view k (first + 2 ^ k) upper

-- the tree gives every page of the space the view's permission
abbrev pub TreeMeans : (ℕ → Perm) → PermTree → Type 0
TreeMeans view tree = TreeMeansAt view 44 0 tree

-- the permission of a page of a block of 2 ^ k pages, by its position in the block; a tree that
-- fits is not split below a page
abbrev pub perm_in : PermTree → ℕ → ℕ → Perm
perm_in (Uniform q) k i = q
perm_in (Split lower upper) zero i = perm_in lower zero i
perm_in (Split lower upper) (suc k) i =
    cond (ltb i (2 ^ k)) (perm_in lower k i) (perm_in upper k (i - 2 ^ k))

-- the view of the tree of the whole space
abbrev pub view_of_tree : PermTree → ℕ → Perm
view_of_tree tree page = perm_in tree 44 page

-- the tree is split at most k times on each path down, so that no block is smaller than a page
abbrev pub Fits : ℕ → PermTree → Type 0
Fits k (Uniform q) = Unit {0}
Fits zero (Split lower upper) = ⊥
Fits (suc k) (Split lower upper) = Fits k lower × Fits k upper

-- no split block is uniform
abbrev pub IsCanonical : PermTree → Type 0
IsCanonical (Uniform q) = Unit {0}
IsCanonical (Split lower upper) = ((q : Perm) → lower ≡ Uniform q → upper ≡ Uniform q → ⊥)
    × IsCanonical lower × IsCanonical upper

-- each split block has pages of two permissions
abbrev pub SplitsOnlyMixedAt : (ℕ → Perm) → ℕ → ℕ → PermTree → Type 0
SplitsOnlyMixedAt view k first (Uniform q) = Unit {0}
SplitsOnlyMixedAt view zero first (Split lower upper) = ⊥
SplitsOnlyMixedAt view (suc k) first (Split lower upper) =
    ((i : ℕ) × (j : ℕ) × (i < 2 ^ suc k) × (j < 2 ^ suc k) × (view (first + i) ≢ view (first + j)))
    × SplitsOnlyMixedAt view k first lower
    × SplitsOnlyMixedAt view k (first + 2 ^ k) upper

-- a tree of the whole space splits only blocks with two permissions
abbrev pub SplitsOnlyMixed : (ℕ → Perm) → PermTree → Type 0
SplitsOnlyMixed view tree = SplitsOnlyMixedAt view 44 0 tree
