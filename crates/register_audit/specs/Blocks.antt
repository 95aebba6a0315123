-- The block of a region, by its first and its last address.
use Rattle.std.specs.Prelude.{◌≡◌, ◌⊎◌, true, ℕ, ◌<◌, ◌≤◌, zero, suc, ◌+◌, ◌*◌, ◌-◌, ◌/◌, ◌%◌, ◌^◌}
use Rattle.std.specs.Prelude.{◌==◌, ◌&&◌, ◌||◌, Bool, nat_le, nat_eq, if◌then◌else◌, Option, Some}
use Rattle.std.specs.Prelude.{None}
use Rattle.std.specs.Option.{option_and_then}
use Rattle.pmp_encoding.specs.declared.perm.Perm.{Perm}
use Rattle.pmp_encoding.specs.Perms.{bits_of}
use Rattle.pmp_encoding.specs.declared.xlen.Xlen.{Xlen}
use Rattle.pmp_encoding.specs.Widths.{address_bits, space_end, xlen_bits}
use Rattle.pmp_encoding.specs.declared.region.Region.{Region}

-- the exponent, among the first `count` from k on, for which 2 to it is the size
abbrev pub exponent_from : ℕ → ℕ → ℕ → Option ℕ
exponent_from k zero size = None
exponent_from k (suc count) size = if size == 2 ^ k then Some k
    else exponent_from (k + 1) count size

-- the exponent of a size that is a power of two, from four bytes to the whole space
unfoldable pub exponent_of : ℕ → Option ℕ
exponent_of size = exponent_from 2 55 size

-- the block with a base and an exponent: aligned to its size, and inside the space of a hart of
-- this width
abbrev pub block_at : Xlen → ℕ → ℕ → Option (ℕ × ℕ)
block_at xlen base log2 = if base % 2 ^ log2 == 0 && nat_le (base + 2 ^ log2) (space_end xlen)
    then Some (base, log2) else None

-- the addresses are from 0 to the highest number of a register of the hart, or of one of 64 bits:
-- the whole space
abbrev pub is_all : Xlen → ℕ → ℕ → Bool
is_all xlen first last = first == 0
    && (last == 2 ^ xlen_bits xlen - 1 || last == 18446744073709551615)

-- the exponent of the size of the space
abbrev pub space_log2 : Xlen → ℕ
space_log2 xlen = address_bits xlen + 2

-- the block from a first to a last address, if they delimit one
abbrev pub block_from : Xlen → ℕ → ℕ → Option (ℕ × ℕ)
block_from xlen first last = if is_all xlen first last then Some (0, space_log2 xlen)
    else option_and_then (block_at xlen first) (exponent_of (last + 1 - first))

-- the configuration byte of a block and a permission: NA4 for four bytes, otherwise NAPOT
abbrev pub cfg_by : ℕ → Perm → ℕ
cfg_by log2 perm = bits_of perm + 8 * (if nat_eq log2 2 then 2 else 3)

-- the canonical address register of a block, by its base and its exponent
abbrev pub address_by : ℕ → ℕ → ℕ
address_by base log2 = if nat_eq log2 2 then base / 4 else base / 4 + 2 ^ (log2 - 3) - 1

-- the size is 2^log2, with log2 from 2 up to before `end`
pub record IsExponentBelow (end size log2 : ℕ) : Type 0 where
  pub least : 2 ≤ log2
  pub below : log2 < end
  pub size_is : size ≡ 2 ^ log2

-- the region has the addresses from the first to the last; or it is the whole space, and so are
-- they
abbrev pub IsBlockOf : Xlen → ℕ → ℕ → Region → Type 0
IsBlockOf xlen first last region =
    ((region.base ≡ first) × (region.base + 2 ^ region.log2 ≡ last + 1))
    ⊎ ((is_all xlen first last ≡ true) × (region.base ≡ 0) × (region.log2 ≡ space_log2 xlen))
