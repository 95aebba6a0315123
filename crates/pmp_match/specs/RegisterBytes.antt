-- The permission that extents give one byte.
use Rattle.std.specs.Prelude.{◌≡◌, ℕ, ◌/◌, ◌^◌, ◌<◌, List, [], ◌∷◌, Bool, ◌&&◌, nat_lt, nat_le}
use Rattle.std.specs.Prelude.{if◌then◌else◌}
use Rattle.pmp_encoding.specs.declared.extent.Extent.{Extent}
use Rattle.pmp_encoding.specs.declared.perm.Perm.{Perm}
use Rattle.pmp_encoding.specs.declared.perm.Perm.TheVariants.{NoAccess}
use Rattle.pmp_encoding.specs.Views.{View}

-- the extent contains the byte
abbrev pub has_byte : Extent → ℕ → Bool
has_byte x byte = nat_le x.base byte && nat_lt byte x.end

-- the permission of the first extent that contains the byte, or no access if no extent does
abbrev pub perm_at : List Extent → ℕ → Perm
perm_at [] byte = NoAccess
perm_at (x ∷ extents) byte = if has_byte x byte then x.perm else perm_at extents byte

-- the extents give each byte of the space the view's permission of its page
abbrev pub IsGiven : List Extent → View → Type 0
IsGiven extents view = (byte : ℕ) → byte < 2 ^ 56 → perm_at extents byte ≡ view (byte / 4096)
