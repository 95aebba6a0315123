-- The registers of a bank, entry by entry.
use Rattle.std.specs.Prelude.{◌≡◌, ℕ, zero, suc, ◌*◌, ◌/◌, ◌%◌, ◌^◌, ◌<◌, ◌≤◌, List, [], ◌∷◌}
use Rattle.std.specs.Prelude.{slice_index}
use Rattle.pmp_encoding.specs.declared.limit.Limit.{Limit}
use Rattle.pmp_encoding.specs.Limits.{limit_number}
use Rattle.pmp_encoding.specs.Faults.{IsFaultless}

-- byte j of a word, counted from the lowest
abbrev pub byte_of : ℕ → ℕ → ℕ
byte_of word j = word / 2 ^ (8 * j) % 256

-- the configuration byte of entry i is byte i mod 8 of the word i / 8
abbrev pub cfg_byte : List ℕ → ℕ → ℕ
cfg_byte words i = byte_of (slice_index words (i / 8)) (i % 8)

-- the pairs of `count` entries from `first` on
abbrev pub pairs_from : List ℕ → List ℕ → ℕ → ℕ → List (ℕ × ℕ)
pairs_from words addresses first zero = []
pairs_from words addresses first (suc count) = (cfg_byte words first, slice_index addresses first)
    ∷ pairs_from words addresses (suc first) count

-- valid registers of a bank: no pair has a fault, and all pairs from the limit on are zero
pub record AreRegisters (limit : Limit) (words addresses : List ℕ) : Type 0 where
  pub faultless : (i : ℕ) → i < 64 → IsFaultless (cfg_byte words i) (slice_index addresses i)
  pub unused : (i : ℕ) → limit_number limit ≤ i → i < 64 → (cfg_byte words i ≡ 0)
      × (slice_index addresses i ≡ 0)
