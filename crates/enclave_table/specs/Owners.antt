-- The owner of each page.
use Rattle.std.specs.Prelude.{◌≡◌, ℕ, true, false}
use Rattle.measurement.specs.Requests.{is_private, is_shared, is_part}
use Rattle.enclave_table.specs.Enclaves.{EnclaveTable, Live}
use Rattle.enclave_table.specs.declared.enclave.Enclave.{Enclave}
use Rattle.enclave_table.specs.declared.owner.Owner.{Owner}
use Rattle.enclave_table.specs.declared.owner.Owner.TheVariants.{Monitor, Private, Shared, Host}
use Rattle.platforms.specs.Ranges.{has_page}

-- the monitor owns its range, an enclave its text and data, the enclave and the host together the
-- shared pages, and the host all other pages
abbrev pub IsOwner : EnclaveTable → ℕ → Owner → Type 0
IsOwner table page Monitor = has_page table.layout.monitor page ≡ true
IsOwner table page (Private id) = (e : Enclave) × Live table id e × (is_private e.parts page ≡ true)
IsOwner table page (Shared id) = (e : Enclave) × Live table id e × (is_shared e.parts page ≡ true)
IsOwner table page Host = (has_page table.layout.monitor page ≡ false)
    × ((id : ℕ) (e : Enclave) → Live table id e → is_part e.parts page ≡ false)
