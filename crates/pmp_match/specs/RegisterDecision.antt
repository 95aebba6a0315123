-- The accesses of supervisor and user mode that a list of extents allows. An extent begins and ends
-- at any multiple of four bytes. (RISC-V Privileged Architecture, Physical Memory Protection,
-- Priority and Matching Logic)
use Rattle.std.specs.Prelude.{◌≡◌, ◌≢◌, ℕ, ◌/◌, ◌%◌, ◌^◌, ◌<◌, ◌≤◌, ◌⊎◌, ◌↔◌, true}
use Rattle.std.specs.Prelude.{All, List, ◌∷◌, ◌++◌}
use Rattle.pmp_encoding.specs.declared.extent.Extent.{Extent}
use Rattle.pmp_encoding.specs.Views.{View}
use Rattle.pmp_match.specs.declared.access.Mode.TheVariants.{Machine}
use Rattle.pmp_match.specs.declared.access.Access.{Access}
use Rattle.pmp_match.specs.Accesses.{IsAligned, Reaches}
use Rattle.pmp_match.specs.Kinds.{holds}
use Rattle.pmp_match.specs.declared.registers.Registers.{Registers}
use Rattle.pmp_match.specs.RegisterMatching.{AreExtents}

-- the extent contains the address
abbrev pub HasByte : Extent → ℕ → Type 0
HasByte x byte = (x.base ≤ byte) × (byte < x.end)

-- the extent contains some byte of the access
abbrev pub Meets : Extent → Access → Type 0
Meets x a = (byte : ℕ) × Reaches a byte × HasByte x byte

-- the extent contains each byte of the access
abbrev pub ContainsAll : Extent → Access → Type 0
ContainsAll x a = (byte : ℕ) → Reaches a byte → HasByte x byte

-- no extent of the list contains a byte of the access
abbrev pub NoneMeets : List Extent → Access → Type 0
NoneMeets extents a = All (λ x. ¬ Meets x a) extents

-- the first extent that contains a byte of the access
pub record IsFirstMatch (extents : List Extent) (a : Access) (x : Extent) : Type 0 where
  pub before : List Extent
  pub after : List Extent
  pub split : extents ≡ before ++ x ∷ after
  pub missed : NoneMeets before a
  pub met : Meets x a

-- supervisor and user mode may make the access: the first extent with a byte of it contains all of
-- its bytes, and its permission allows the kind
pub record Permits (extents : List Extent) (a : Access) : Type 0 where
  pub extent : Extent
  pub first : IsFirstMatch extents a extent
  pub whole : ContainsAll extent a
  pub may : holds extent.perm a.kind ≡ true

-- supervisor and user mode may make exactly those aligned accesses in the space that the view
-- allows
abbrev pub ExtentsMean : List Extent → View → Type 0
ExtentsMean extents view =
    (a : Access) → IsAligned a → a.address < 2 ^ 56 → a.mode ≢ Machine
    → Permits extents a ↔ (holds (view (a.address / 4096)) a.kind ≡ true)

-- the first match of each access that the view allows contains the whole access
abbrev pub IsNeverCut : List Extent → View → Type 0
IsNeverCut extents view =
    (a : Access) → IsAligned a → a.address < 2 ^ 56 → a.mode ≢ Machine
    → holds (view (a.address / 4096)) a.kind ≡ true
    → (x : Extent) → IsFirstMatch extents a x → ContainsAll x a

-- the registers have no reserved value, and their extents mean the view
pub record RegistersMean (registers : Registers) (view : View) : Type 0 where
  pub extents : List Extent
  pub are_extents : AreExtents registers extents
  pub means : ExtentsMean extents view

-- the extent of any entry: one or more consecutive four-byte words of the space, or no address
pub record IsWords (x : Extent) : Type 0 where
  pub base : x.base % 4 ≡ 0
  pub end : x.end % 4 ≡ 0
  pub inside : x.end ≤ 2 ^ 56
  pub some : (x.base < x.end) ⊎ ((x.base ≡ 0) × (x.end ≡ 0))
