-- An enclave of whose digest a word is refused.
use Rattle.std.proofs.Common.{ℕ, ◌<◌, inl, inr}
use Rattle.enclave_table.specs.declared.enclave.Enclave.{Enclave}
use Rattle.enclave_table.specs.declared.refusal.Refusal.{Refusal}
use Rattle.enclave_table.specs.Checks.{word_checks}
use Rattle.platforms.specs.CheckLists.{FailsFirst}
use Rattle.enclave_table.specs.Enclaves.{EnclaveTable, Live}

-- it is not live, since there are four words
pub not_live : (table : EnclaveTable) (id k : ℕ) (refusal : Refusal) → k < 4 → FailsFirst (word_checks table id k) refusal → (enclave : Enclave)
    → ¬ Live table id enclave
not_live table id k refusal inside (inl no_id) enclave live = no_id.1 (enclave, live)
not_live table id k refusal inside (inr (id_is, inl no_word)) enclave live = no_word.1 inside
not_live table id k refusal inside (inr (id_is, inr none)) enclave live = absurd none.1
