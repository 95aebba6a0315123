-- Registers, and the list of entries that they hold.
use Rattle.std.specs.Prelude.{◌≡◌, ℕ, ◌<◌, ◌≤◌, List, length, slice_get, slice_index, Some}
use Rattle.pmp_encoding.specs.declared.region.Entry.{Entry}
use Rattle.pmp_encoding.specs.Encoding.{address_of, cfg_of}
use Rattle.pmp_encoding.specs.declared.fault.EncodingFault.{EncodingFault}
use Rattle.pmp_encoding.specs.Faults.{IsFaultless, IsLeastFault}
use Rattle.pmp_encoding.specs.Lists.{MeansList}
use Rattle.pmp_encoding.specs.Registers.{cfg_byte, pairs_from}
use Rattle.planner_for_c.specs.declared.registers.Registers.{Registers}

-- the pairs of a hart with `count` entries
abbrev pub pairs_to : Registers → ℕ → List (ℕ × ℕ)
pairs_to registers count = pairs_from registers.cfg registers.addr 0 count

-- the registers hold the entries from entry 0 on, in their canonical pairs, and zero after them:
-- each hart with room for them has that list
pub record HoldsList (registers : Registers) (entries : List Entry) : Type 0 where
  pub list : (count : ℕ) → length entries ≤ count → count ≤ 64
      → MeansList (pairs_to registers count) entries
  pub canonical : (i : ℕ) (e : Entry) → slice_get entries i ≡ Some e
      → (cfg_byte registers.cfg i ≡ cfg_of e) × (slice_index registers.addr i ≡ address_of e)
  pub off : (i : ℕ) → length entries ≤ i → i < 64 → (cfg_byte registers.cfg i ≡ 0)
      × (slice_index registers.addr i ≡ 0)

-- one of the first `count` pairs has a fault; this is the least fault of the first such pair
pub record HasFault (registers : Registers) (count : ℕ) (fault : EncodingFault) : Type 0 where
  pub place : ℕ
  pub inside : place < count
  pub fault_is : IsLeastFault (cfg_byte registers.cfg place) (slice_index registers.addr place)
      fault
  pub below : (i : ℕ) → i < place → IsFaultless (cfg_byte registers.cfg i)
      (slice_index registers.addr i)
