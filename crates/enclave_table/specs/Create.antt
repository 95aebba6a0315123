-- The results of create, and its effect on the table.
use Rattle.std.specs.Prelude.{◌≡◌, ℕ, List, Some, ◌⊎◌}
use Rattle.sbi_decode.specs.declared.world.World.{World}
use Rattle.measurement.specs.Requests.{parts_of}
use Rattle.enclave_table.specs.Enclaves.{EnclaveTable, with_enclave, IsNextId}
use Rattle.enclave_table.specs.Views.{host_view, enclave_view}
use Rattle.platforms.specs.CheckLists.{AllPass}
use Rattle.enclave_table.specs.Checks.{create_checks}
use Rattle.enclave_table.specs.Fewest.{FitsIn, NeedsMore}
use Rattle.enclave_table.specs.declared.enclave.Enclave.{Enclave}
use Rattle.enclave_table.specs.declared.enclave.Stage.TheVariants.{Fresh}
use Rattle.measurement.specs.declared.request.Create.{Create}

-- the created enclave, with its digest
abbrev pub fresh : (Create → List ℕ) → Create → Enclave
fresh digests parts = record { parts = parts; state = Fresh; digest = digests parts }

-- a successful create: a new enclave under the next id, with the digest of its parts, and both
-- views fit
pub record Creates (digests : Create → List ℕ) (old : EnclaveTable) (world : World) (asked : Create)
    (id : ℕ) (new : EnclaveTable) : Type 0 where
  pub passes : AllPass (create_checks old world (parts_of asked))
  pub next : IsNextId old id
  pub added : new ≡ with_enclave old id (Some (fresh digests (parts_of asked)))
  pub host_fits : FitsIn new.layout.limit (host_view new)
  pub enclave_fits : FitsIn new.layout.limit (enclave_view (parts_of asked))

-- the host's view or the enclave's would need more entries than a hart has
abbrev pub OutgrowsByCreate : (Create → List ℕ) → EnclaveTable → Create → Type 0
OutgrowsByCreate digests old asked =
    ((id : ℕ) × IsNextId old id × NeedsMore old.layout.limit
    (host_view (with_enclave old id (Some (fresh digests (parts_of asked))))))
    ⊎ NeedsMore old.layout.limit (enclave_view (parts_of asked))
