-- Segments of the space in which a list of entries treats all accesses alike.
use Rattle.std.specs.Prelude.{◌≡◌, ℕ, ◌+◌, ◌^◌, ◌≤◌, ◌||◌, List}
use Rattle.pmp_encoding.specs.declared.bank.Bank.{Bank}
use Rattle.pmp_encoding.specs.declared.extent.Extent.{Extent}
use Rattle.pmp_encoding.specs.declared.perm.Perm.{Perm}
use Rattle.pmp_encoding.specs.declared.region.Entry.{Entry}
use Rattle.pmp_encoding.specs.Banks.{HasList}
use Rattle.pmp_match.specs.declared.access.Access.{Access}
use Rattle.pmp_match.specs.declared.segments.Segment.{Segment}
use Rattle.pmp_match.specs.Decision.{allows, is_machine}
use Rattle.pmp_match.specs.Kinds.{holds}
use Rattle.pmp_match.specs.Matching.{lets_through}

-- each byte of the access lies between the two addresses, the second excluded
abbrev pub IsWithin : ℕ → ℕ → Access → Type 0
IsWithin base end a = (base ≤ a.address) × (a.address + a.size ≤ end)

-- the extents and the permission decide alike on each access within the range
abbrev pub Decides : List Extent → ℕ → ℕ → Perm → Type 0
Decides extents base end perm = (a : Access) → IsWithin base end a
    → lets_through extents a ≡ (is_machine a.mode || holds perm a.kind)

-- the segment lies in the space, and the bank's list and the segment's permission decide alike on
-- each access within it
pub record IsSegmentOf (bank : Bank) (segment : Segment) : Type 0 where
  pub inside : segment.end ≤ 2 ^ 56
  pub decides : (entries : List Entry) → HasList bank entries → (a : Access)
      → IsWithin segment.base segment.end a
      → allows entries a ≡ (is_machine a.mode || holds segment.perm a.kind)
