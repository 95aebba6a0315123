-- Faults of register pairs, and the fault that is reported if a pair has several.
use Rattle.std.specs.Prelude.{◌≡◌, ◌≢◌, ℕ, ◌/◌, ◌%◌, ◌^◌, ◌<◌, ◌≤◌}
use Rattle.pmp_encoding.specs.declared.fault.EncodingFault.{EncodingFault}
use Rattle.pmp_encoding.specs.declared.fault.EncodingFault.TheVariants.{ReservedPerm, Tor, Locked}
use Rattle.pmp_encoding.specs.declared.fault.EncodingFault.TheVariants.{ReservedBits, AddressBits}
use Rattle.pmp_encoding.specs.declared.fault.EncodingFault.TheVariants.{NoSuchCsr}

-- the number of a fault
abbrev pub fault_number : EncodingFault → ℕ
fault_number ReservedPerm = 1
fault_number Tor = 2
fault_number Locked = 3
fault_number ReservedBits = 4
fault_number AddressBits = 5
fault_number NoSuchCsr = 6

-- the pair has the fault: W (bit 1) without R (bit 0); mode 1, TOR, in bits 4:3; L, bit 7; a
-- nonzero bit of 6:5; an address register with a nonzero bit above 53. A pair never has `NoSuchCsr`
abbrev pub HasFault : EncodingFault → ℕ → ℕ → Type 0
HasFault ReservedPerm cfg address = (cfg / 2 % 2 ≡ 1) × (cfg % 2 ≡ 0)
HasFault Tor cfg address = cfg / 8 % 4 ≡ 1
HasFault Locked cfg address = cfg / 128 % 2 ≡ 1
HasFault ReservedBits cfg address = cfg / 32 % 4 ≢ 0
HasFault AddressBits cfg address = 2 ^ 54 ≤ address
HasFault NoSuchCsr cfg address = ⊥

-- the configuration byte and the address register have no fault
pub record IsFaultless (cfg address : ℕ) : Type 0 where
  pub byte : cfg < 256
  pub none : (fault : EncodingFault) → ¬ HasFault fault cfg address

-- the pair has the fault and no fault of a lower number
pub record IsLeastFault (cfg address : ℕ) (fault : EncodingFault) : Type 0 where
  pub has : HasFault fault cfg address
  pub least : (other : EncodingFault) → HasFault other cfg address
      → fault_number fault ≤ fault_number other
