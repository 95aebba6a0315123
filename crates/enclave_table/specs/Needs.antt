-- The number of entries that the host's view needs after a creation.
use Rattle.std.specs.Prelude.{◌≡◌, ℕ, Some}
use Rattle.pmp_match.specs.Meaning.{Needs}
use Rattle.measurement.specs.Requests.{parts_of}
use Rattle.enclave_table.specs.Enclaves.{EnclaveTable, with_enclave, IsNextId}
use Rattle.enclave_table.specs.Views.{host_view}
use Rattle.enclave_table.specs.declared.enclave.Enclave.{Enclave}
use Rattle.measurement.specs.declared.request.Create.{Create}

-- the host's view needs n entries after the requested creation under the next id, whatever the
-- pages contain
abbrev pub NeedsWithCreated : EnclaveTable → Create → ℕ → Type 0
NeedsWithCreated table asked n =
    (id : ℕ) (e : Enclave) → IsNextId table id → e.parts ≡ parts_of asked
    → Needs (host_view (with_enclave table id (Some e))) n
