-- The CSRs of a bank by number, and the values that may be written to them.
use Rattle.std.specs.Prelude.{◌≡◌, ◌≢◌, ℕ, ◌+◌, ◌*◌, ◌%◌, ◌<◌, ◌⊎◌}
use Rattle.pmp_encoding.specs.declared.bank.Bank.{Bank}
use Rattle.pmp_encoding.specs.declared.fault.EncodingFault.{EncodingFault}
use Rattle.pmp_encoding.specs.declared.limit.Limit.{Limit}
use Rattle.pmp_encoding.specs.Faults.{IsFaultless, IsLeastFault}
use Rattle.pmp_encoding.specs.Limits.{limit_number}
use Rattle.pmp_encoding.specs.Registers.{byte_of}
use Rattle.pmp_encoding.specs.Banks.{word_at, address_at}

-- the CSR is pmpcfg(k), which has number 0x3A0 + k. It exists if k is even and entry 4 * k, the
-- first of the eight that it configures, is below the limit
abbrev pub IsCfgCsr : Limit → ℕ → ℕ → Type 0
IsCfgCsr limit number k = (number ≡ 0x3A0 + k) × (k % 2 ≡ 0) × (4 * k < limit_number limit)

-- the CSR is pmpaddr(i), which has number 0x3B0 + i. It exists if entry i is below the limit
abbrev pub IsAddressCsr : Limit → ℕ → ℕ → Type 0
IsAddressCsr limit number i = (number ≡ 0x3B0 + i) × (i < limit_number limit)

-- the bank has a CSR of this number
abbrev pub IsCsr : Limit → ℕ → Type 0
IsCsr limit number = ((k : ℕ) × IsCfgCsr limit number k) ⊎ ((i : ℕ) × IsAddressCsr limit number i)

-- no byte of the word has a fault
abbrev pub IsFaultlessWord : ℕ → Type 0
IsFaultlessWord word = (j : ℕ) → j < 8 → IsFaultless (byte_of word j) 0

-- the fault of the word's lowest faulty byte
pub record IsFaultOfWord (word : ℕ) (fault : EncodingFault) : Type 0 where
  pub place : ℕ
  pub inside : place < 8
  pub below : (j : ℕ) → j < place → IsFaultless (byte_of word j) 0
  pub fault_is : IsLeastFault (byte_of word place) 0 fault

-- the word pmpcfg(k) has the value, and everything else is unchanged
pub record WritesWord (old new : Bank) (k value : ℕ) : Type 0 where
  pub limit_is : new.limit ≡ old.limit
  pub written : word_at new k ≡ value
  pub words : (other : ℕ) → other % 2 ≡ 0 → other ≢ k → word_at new other ≡ word_at old other
  pub addresses : (i : ℕ) → address_at new i ≡ address_at old i

-- the address register of entry i has the value, and everything else is unchanged
pub record WritesAddress (old new : Bank) (i value : ℕ) : Type 0 where
  pub limit_is : new.limit ≡ old.limit
  pub written : address_at new i ≡ value
  pub addresses : (other : ℕ) → other ≢ i → address_at new other ≡ address_at old other
  pub words : (k : ℕ) → word_at new k ≡ word_at old k
