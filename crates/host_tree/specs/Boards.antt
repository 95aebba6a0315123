-- The harts and the memory of a board, by the ranges that its tree describes.
use Rattle.std.specs.Prelude.{◌≡◌, ◌⊎◌, ℕ, ◌+◌, ◌%◌, ◌<◌, ◌≤◌}
use Rattle.std.specs.Prelude.{Bool, false, not, cond, List, [], ◌∷◌, ◌++◌}
use Rattle.device_tree.specs.declared.kinds.Kind.{Kind}
use Rattle.device_tree.specs.declared.kinds.Kind.TheVariants.{Memory, Device, Machine}
use Rattle.device_tree.specs.declared.kinds.Kind.TheVariants.{Reserved, Hart, Untranslated}
use Rattle.device_tree.specs.declared.rows.Extent.{Extent}
use Rattle.device_tree.specs.Meaning.{Range}

-- the kind is that of harts or, if `hart` is false, that of memory
abbrev pub is_kind : Kind → Bool → Bool
is_kind Hart hart = hart
is_kind Memory hart = not hart
is_kind Device hart = false
is_kind Machine hart = false
is_kind Reserved hart = false
is_kind Untranslated hart = false

-- the extent of a range if it is of the wanted kind
abbrev pub one_extent : Bool → Kind → Extent → List Extent
one_extent hart kind extent = cond (is_kind kind hart) (extent ∷ []) []

-- the extents of harts or of memory
abbrev pub extents_of : Bool → List Range → List Extent
extents_of hart [] = []
extents_of hart (first ∷ later) = one_extent hart first.kind first.extent ++ extents_of hart later

-- an address is in one of the extents
abbrev pub Has : List Extent → ℕ → Type 0
Has [] address = ⊥
Has (first ∷ later) address = ((first.base ≤ address) × (address < first.base + first.size))
    ⊎ Has later address

-- a board with this memory has `there` of the `size` bytes from `base` on without a gap: all of
-- them, or as many whole pages as possible
pub record AreThere (memory : List Extent) (base size there : ℕ) : Type 0 where
  pub within : there ≤ size
  pub has : (address : ℕ) → base ≤ address → address < base + there → Has memory address
  pub all : ((address : ℕ) → base ≤ address → address < base + size → Has memory address)
      → there ≡ size
  pub pages : (there ≡ size) ⊎ (there % 4096 ≡ 0)
  pub most : (more : ℕ) → more ≤ size → more % 4096 ≡ 0
      → ((address : ℕ) → base ≤ address → address < base + more → Has memory address)
      → more ≤ there

-- one of these harts has that number
abbrev pub IsHart : List Extent → ℕ → Type 0
IsHart [] hart = ⊥
IsHart (first ∷ later) hart = (first.base ≡ hart) ⊎ IsHart later hart

-- of at most `most` harts, a board has `there` from hart 0 on without a gap; hart 0 boots, so only
-- the others need be listed
pub record HartsThere (harts : List Extent) (most there : ℕ) : Type 0 where
  pub within : there ≤ most
  pub some : 0 < most → 0 < there
  pub are : (hart : ℕ) → 0 < hart → hart < there → IsHart harts hart
  pub all : there < most → IsHart harts there → ⊥
