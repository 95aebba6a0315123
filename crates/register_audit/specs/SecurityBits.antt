-- Classification of the bits of `mseccfg`. (RISC-V Privileged Architecture, Machine Security
-- Configuration Register)
use Rattle.std.specs.Prelude.{ℕ, zero, suc, ◌+◌, ◌/◌, ◌%◌, ◌^◌, ◌==◌, ◌&&◌, ◌||◌, Bool, not, nat_lt}
use Rattle.std.specs.Prelude.{Option, Some, None, if◌then◌else◌}
use Rattle.register_audit.specs.declared.security_bits.BitSort.{BitSort}
use Rattle.register_audit.specs.declared.security_bits.BitSort.TheVariants.{Foreign, Unknown}

-- MML, MMWP and RLB of Smepmp, bits 0, 1 and 2
abbrev pub is_of_smepmp : ℕ → Bool
is_of_smepmp bit = nat_lt bit 3

-- bits of other extensions: USEED and SSEED of Zkr, bits 8 and 9, MLPE of Zicfilp, bit 10, and PMM
-- of Smmpm, bits 33:32
abbrev pub is_foreign_bit : ℕ → Bool
is_foreign_bit bit = (bit == 8 || bit == 9) || (bit == 10 || (bit == 32 || bit == 33))

-- the bit is of this class: unknown if it is not one of these
abbrev pub is_of_sort : BitSort → ℕ → Bool
is_of_sort Foreign bit = is_foreign_bit bit
is_of_sort Unknown bit = not (is_of_smepmp bit || is_foreign_bit bit)

-- the bit of a value is 1 and of this class
abbrev pub has_bit : BitSort → ℕ → ℕ → Bool
has_bit sort value bit = value / 2 ^ bit % 2 == 1 && is_of_sort sort bit

-- the lowest such bit of a value among `count` bits from a bit on
abbrev pub lowest_from : BitSort → ℕ → ℕ → ℕ → Option ℕ
lowest_from sort value bit zero = None
lowest_from sort value bit (suc count) =
    if has_bit sort value bit then Some bit else lowest_from sort value (bit + 1) count

-- the lowest such bit of a 64-bit register
abbrev pub lowest_bit : BitSort → ℕ → Option ℕ
lowest_bit sort value = lowest_from sort value 0 64

-- the lowest bit of `mseccfg` that no extension defines, if there is one
abbrev pub unknown_bit : ℕ → Option ℕ
unknown_bit mseccfg = lowest_bit Unknown mseccfg

-- the lowest bit of `mseccfg` that is not about PMP
abbrev pub foreign_bit : ℕ → Option ℕ
foreign_bit mseccfg = lowest_bit Foreign mseccfg
