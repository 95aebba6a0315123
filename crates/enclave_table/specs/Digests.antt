-- The words of an enclave's digest.
use Rattle.std.specs.Prelude.{◌≡◌, ℕ, ◌*◌, drop, List, Some}
use Rattle.byteorder.specs.Endian.{little_number}
use Rattle.enclave_table.specs.Enclaves.{EnclaveTable, Live, with_enclave}
use Rattle.platforms.specs.CheckLists.{AllPass}
use Rattle.enclave_table.specs.Checks.{word_checks}
use Rattle.enclave_table.specs.declared.enclave.Enclave.{Enclave}

-- the table with another digest of the enclave that is live under this id
abbrev pub with_digest : EnclaveTable → ℕ → Enclave → List ℕ → EnclaveTable
with_digest table id e digest = with_enclave table id (Some (record e { digest = digest }))

-- measure: the k-th word of the digest
pub record AnswersWord (table : EnclaveTable) (id k word : ℕ) : Type 0 where
  pub passes : AllPass (word_checks table id k)
  pub value : (e : Enclave) → Live table id e → word ≡ little_number 8 (drop (8 * k) e.digest)
