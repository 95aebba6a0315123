-- Registers filled with entries, one by one.
use Rattle.std.specs.Prelude.{◌≡◌, ℕ, ◌-◌, ◌*◌, ◌^◌, ◌<◌, ◌≤◌, List, length, Some, slice_get}
use Rattle.std.specs.Prelude.{slice_index}
use Rattle.pmp_encoding.specs.declared.region.Entry.{Entry}
use Rattle.pmp_encoding.specs.Encoding.{cfg_of, address_of}
use Rattle.pmp_encoding.specs.Registers.{cfg_byte}

-- the first n pairs are the canonical pairs of the first n entries, and all others are zero
pub record IsFilled (entries : List Entry) (words addresses : List ℕ) (n : ℕ) : Type 0 where
  pub eight : length words ≡ 8
  pub many : length addresses ≡ 64
  pub canonical : (i : ℕ) (e : Entry) → i < n → slice_get entries i ≡ Some e
      → (cfg_byte words i ≡ cfg_of e) × (slice_index addresses i ≡ address_of e)
  pub words_above : (w : ℕ) → slice_index words w < 2 ^ (8 * (n - 8 * w))
  pub addresses_above : (i : ℕ) → n ≤ i → slice_index addresses i ≡ 0

-- all address registers are zero
abbrev pub AreZero : List ℕ → Type 0
AreZero addresses = (length addresses ≡ 64) × ((i : ℕ) → slice_index addresses i ≡ 0)
