-- Sets of permissions as numbers of six bits.
use Rattle.std.specs.Prelude.{ℕ, ◌+◌, ◌*◌, Bool, ◌==◌, if◌then◌else◌}
use Rattle.std.specs.Int.{bit_at}
use Rattle.pmp_encoding.specs.declared.perm.Perm.{Perm}
use Rattle.pmp_encoding.specs.declared.perm.Perm.TheVariants.{NoAccess, Read, ReadWrite, Execute}
use Rattle.pmp_encoding.specs.declared.perm.Perm.TheVariants.{ReadExecute, ReadWriteExecute}
use Rattle.pmp_encoding.specs.Perms.{index_of}

-- the set contains the permission: the bit at its position in the fixed order is set
abbrev pub has : ℕ → Perm → Bool
has bits p = bit_at bits (index_of p) == 1

-- 1 for a set bit, otherwise 0
abbrev pub bit_of : Bool → ℕ
bit_of b = if b then 1 else 0

abbrev pub set_of : (Perm → Bool) → ℕ
set_of f =
    bit_of (f NoAccess) + 2 * bit_of (f Read) + 4 * bit_of (f ReadWrite) + 8 * bit_of (f Execute) +
    16 * bit_of (f ReadExecute) + 32 * bit_of (f ReadWriteExecute)
