-- The addresses that the entries of a hart's registers match. The mode is A, bits 4:3 of the
-- configuration byte: 0 is OFF, 1 TOR, 2 NA4 and 3 NAPOT. (RISC-V Privileged Architecture, Physical
-- Memory Protection, Address Matching)
use Rattle.std.specs.Prelude.{◌≡◌, ℕ, ◌+◌, ◌-◌, ◌*◌, ◌%◌, ◌^◌, ◌==◌, ⊤, min, if◌then◌else◌}
use Rattle.std.specs.Prelude.{List, [], ◌∷◌, length}
use Rattle.pmp_encoding.specs.declared.extent.Extent.{Extent}
use Rattle.pmp_encoding.specs.declared.perm.Perm.{Perm}
use Rattle.pmp_encoding.specs.declared.region.Entry.{Entry}
use Rattle.pmp_encoding.specs.Encoding.{IsOff, MeansEntry}
use Rattle.pmp_encoding.specs.Extents.{extent_of}
use Rattle.pmp_encoding.specs.Perms.{bits_of}
use Rattle.pmp_encoding.specs.declared.xlen.Xlen.{Xlen}
use Rattle.pmp_encoding.specs.Widths.{address_bits, space_end}
use Rattle.pmp_match.specs.declared.registers.Registers.{Registers}
use Rattle.pmp_match.specs.Registers.{address_at, user_cfg_at}
pub use Rattle.pmp_match.specs.Tor.{nowhere, tor_extent}

-- the bits of an address register that a hart keeps: bits 31:0 on RV32, and bits 53:0 on RV64,
-- where bits 63:54 are always zero
abbrev pub kept : Xlen → ℕ → ℕ
kept xlen address = address % 2 ^ address_bits xlen

-- the bottom of a TOR entry: the address register of the previous entry, in whatever mode that is,
-- or 0 for entry 0
abbrev pub bottom_of : Registers → ℕ → ℕ
bottom_of registers place = if place == 0 then 0
    else kept registers.xlen (address_at registers (place - 1))

-- the part of an extent within the hart's space. On RV32 a block may end after the space: an
-- address register of all ones names 2^35 bytes
abbrev pub within : Xlen → Extent → Extent
within xlen x = record { base = x.base; end = min x.end (space_end xlen); perm = x.perm }

-- the addresses that the entry at a position matches, with the permission of supervisor and user
-- mode: none if it is OFF; with TOR those from the bottom up to but excluding the top; with NA4 and
-- NAPOT the block of the pair
pub data IsExtentAt (registers : Registers) (place : ℕ) : Extent → Type 0 where
  off :
      IsOff (user_cfg_at registers place) (kept registers.xlen (address_at registers place))
      → IsExtentAt registers place nowhere
  tor :
      (perm : Perm) → user_cfg_at registers place ≡ 1 * 8 + bits_of perm
      → IsExtentAt registers place
      (tor_extent (bottom_of registers place) (kept registers.xlen (address_at registers place))
      perm)
  block :
      (e : Entry) → MeansEntry (user_cfg_at registers place)
      (kept registers.xlen (address_at registers place)) e
      → IsExtentAt registers place (within registers.xlen (extent_of e))

-- the extents of consecutive entries from a position on
abbrev pub AreExtentsFrom : Registers → ℕ → List Extent → Type 0
AreExtentsFrom registers place [] = ⊤
AreExtentsFrom registers place (x ∷ extents) =
    IsExtentAt registers place x × AreExtentsFrom registers (place + 1) extents

-- the extents of the 64 entries in order
pub record AreExtents (registers : Registers) (extents : List Extent) : Type 0 where
  pub count : length extents ≡ 64
  pub each : AreExtentsFrom registers 0 extents
