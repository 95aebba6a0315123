-- Hulls of extents, as the nodes of a binary tree.
use Rattle.std.specs.Prelude.{◌≡◌, ℕ, ◌+◌, ◌*◌, ◌-◌, ◌/◌, ◌<◌, ◌≤◌, ◌||◌, nat_le, nat_lt, Bool}
use Rattle.std.specs.Prelude.{true, false, List, [], ◌∷◌, get_or, length, if◌then◌else◌}
use Rattle.pmp_encoding.specs.declared.extent.Extent.{Extent}
use Rattle.map_table.specs.declared.hull_tree.Hull.{Hull}

-- the first hull contains all bytes of the second, and its number is no greater
pub record Encloses (outer inner : Hull) : Type 0 where
  pub base : outer.base ≤ inner.base
  pub end : inner.end ≤ outer.end
  pub number : outer.number ≤ inner.number

abbrev pub hull_of : ℕ → Extent → Hull
hull_of n x = record { base = x.base; end = x.end; number = n }

-- the hull of each extent, if the first of the list has the number n
abbrev pub numbered : ℕ → List Extent → List Hull
numbered n [] = []
numbered n (x ∷ extents) = hull_of n x ∷ numbered (n + 1) extents

abbrev pub no_hull : Hull
no_hull = record { base = 0; end = 0; number = 0 }

-- the hull has no number below the bound, or ends before `first` or begins at `end` or later
abbrev pub is_past : Hull → ℕ → ℕ → ℕ → Bool
is_past hull bound first end = nat_le bound hull.number || nat_le end hull.base
    || nat_le hull.end first

-- each leaf from index `from` up to `to` is past
abbrev pub AllPast : List Hull → ℕ → ℕ → ℕ → ℕ → ℕ → Type 0
AllPast leaves from to bound first end = (p : ℕ) → from ≤ p → p < to
    → is_past (get_or leaves p no_hull) bound first end ≡ true

-- the first leaf from index `from` on that is not past
pub record IsNextLeaf (leaves : List Hull) (from bound first end place : ℕ) : Type 0 where
  pub later : from ≤ place
  pub inside : place < length leaves
  pub met : is_past (get_or leaves place no_hull) bound first end ≡ false
  pub before : AllPast leaves from place bound first end

-- with n leaves, node n + k is leaf k, and a lower one is a hull of the list
abbrev pub node_at : List Hull → List Hull → ℕ → Hull
node_at hulls leaves m = if nat_lt m (length leaves) then get_or hulls m no_hull
    else get_or leaves (m - length leaves) no_hull

-- each node from 2 * i on is enclosed by the node of half its index
abbrev pub AreNestedFrom : ℕ → List Hull → List Hull → Type 0
AreNestedFrom i hulls leaves = (m : ℕ) → 2 * i ≤ m → m < 2 * length leaves
    → Encloses (node_at hulls leaves (m / 2)) (node_at hulls leaves m)

-- hulls of all leaves
pub record AreHulls (hulls leaves : List Hull) : Type 0 where
  pub same : length hulls ≡ length leaves
  pub nested : AreNestedFrom 1 hulls leaves
