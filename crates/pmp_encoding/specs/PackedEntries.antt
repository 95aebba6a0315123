-- An entry as one number: the permission in three bits, the size in six, and above them a quarter
-- of the lowest address.
use Rattle.std.specs.Prelude.{◌≡◌, ℕ, ◌*◌, ◌/◌, ◌%◌}
use Rattle.pmp_encoding.specs.declared.region.Entry.{Entry}
use Rattle.pmp_encoding.specs.Block.{IsBlock}
use Rattle.pmp_encoding.specs.Perms.{bits_of, perm_for}

-- the base address in a packed entry
abbrev pub base_in : ℕ → ℕ
base_in n = n / 512 * 4

-- the binary logarithm of the size in a packed entry
abbrev pub log2_in : ℕ → ℕ
log2_in n = n / 8 % 64

-- the number's block is a valid region
abbrev pub HasBlock : ℕ → Type 0
HasBlock n = IsBlock (base_in n) (log2_in n)

-- the number's low bits are those of a permission
abbrev pub HasBits : ℕ → Type 0
HasBits n = bits_of (perm_for (n % 8)) ≡ n % 8

-- the entry that the number encodes
abbrev pub entry_in : (n : ℕ) → HasBlock n → Entry
entry_in n block = record {
  region = record { base = base_in n; log2 = log2_in n; block = block };
  perm = perm_for (n % 8);
}
