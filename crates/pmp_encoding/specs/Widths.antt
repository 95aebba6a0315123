-- The width of a hart's registers and its consequences.
use Rattle.std.specs.Prelude.{◌≡◌, ℕ, ◌+◌, ◌-◌, ◌*◌, ◌/◌, ◌^◌, nat_le, nat_lt, Bool, true, List}
use Rattle.std.specs.List.{list_all}
use Rattle.pmp_encoding.specs.declared.limit.Limit.{Limit}
use Rattle.pmp_encoding.specs.declared.region.Entry.{Entry}
use Rattle.pmp_encoding.specs.Limits.{limit_number}
use Rattle.pmp_encoding.specs.declared.xlen.Xlen.{Xlen}
use Rattle.pmp_encoding.specs.declared.xlen.Xlen.TheVariants.{Rv32, Rv64}

-- the number of bits of a register
abbrev pub xlen_bits : Xlen → ℕ
xlen_bits Rv32 = 32
xlen_bits Rv64 = 64

-- a register can hold the number
abbrev pub fits : Xlen → ℕ → Bool
fits xlen value = nat_lt value (2 ^ xlen_bits xlen)

-- the number of bits that a hart keeps of an address register: all 32 on RV32, and bits 53:0 on
-- RV64, where bits 63:54 are always zero
abbrev pub address_bits : Xlen → ℕ
address_bits Rv32 = 32
address_bits Rv64 = 54

-- the end of the physical address space: address registers count in units of four bytes
abbrev pub space_end : Xlen → ℕ
space_end xlen = 4 * 2 ^ address_bits xlen

-- the number of hexadecimal digits of a register
abbrev pub register_digits : Xlen → ℕ
register_digits xlen = xlen_bits xlen / 4

-- the number of entries that one configuration word configures, eight bits each
abbrev pub word_entries : Xlen → ℕ
word_entries xlen = xlen_bits xlen / 8

-- the number of configuration words for that many entries
abbrev pub word_count : Xlen → Limit → ℕ
word_count xlen limit = limit_number limit / word_entries xlen

-- the number in the name of the i-th configuration word: pmpcfg0, 1, .. on RV32 and pmpcfg0, 2, ..
-- on RV64
abbrev pub word_number : Xlen → ℕ → ℕ
word_number xlen i = xlen_bits xlen / 32 * i

-- the position of the first word that contains no byte of an entry below `first`
abbrev pub whole_word : Xlen → ℕ → ℕ
whole_word xlen first = (first + (word_entries xlen - 1)) / word_entries xlen

-- a region ends within the 2^34 bytes that 32-bit address registers can express
abbrev pub is_near : Entry → Bool
is_near e = nat_le (e.region.base + 2 ^ e.region.log2) (2 ^ 34)

-- the hart's address registers can express the regions of all these entries, which is always true
-- of 64-bit registers
abbrev pub AreReached : Xlen → List Entry → Type 0
AreReached Rv32 entries = list_all is_near entries ≡ true
AreReached Rv64 entries = Unit {0}
