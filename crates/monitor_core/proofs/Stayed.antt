-- Where an enclave is created or destroyed the table is another one, and where the table stays, so do the lists.
use Rattle.std.proofs.Common.{◌≡◌, ◌∙◌, ℕ, Some, None, ap, sym, arith}
use Rattle.enclave_table.specs.Enclaves.{EnclaveTable, Live, IsNextId, enclave_at, with_enclave}
use Rattle.enclave_table.specs.Tables.{IsTable, Kept}
use Rattle.enclave_table.specs.declared.enclave.Enclave.{Enclave}
use Rattle.enclave_table.proofs.Places.{live_above, live_inside, set_same}

pub not_added : (table now : EnclaveTable) (id : ℕ) (e : Enclave) → IsTable table → IsNextId table id → now ≡ with_enclave table id (Some e) → now ≡ table → ⊥
not_added table now id e is next added same =
    let z : Some e ≡ None = sym (set_same table.enclaves id (Some e) next.free.0 (omega (arith, is.places, next.free.1, next.free.0)))
    ∙ ap (λ t. enclave_at t.enclaves id) (sym added ∙ same) ∙ next.free.2 in cc

pub not_removed : (table now : EnclaveTable) (id : ℕ) (e : Enclave) → Live table id e → now ≡ with_enclave table id None → now ≡ table → ⊥
not_removed table now id e live removed same =
    let gone = set_same table.enclaves id None (live_above table.enclaves id e live) (live_inside table.enclaves id e live) in
    let z : Some e ≡ None = sym live ∙ ap (λ t. enclave_at t.enclaves id) (sym same ∙ removed) ∙ gone in cc

-- nothing but the table changed
pub lists_turned : (kept now : Kept) → now ≡ record kept { table = now.table } → now.table ≡ kept.table → now ≡ kept
lists_turned kept now is table = is ∙ ap (λ t. record kept { table = t }) table
