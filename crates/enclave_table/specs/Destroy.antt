-- The results of destroy, and its effect on the table.
use Rattle.std.specs.Prelude.{◌≡◌, ℕ, ◌+◌, ◌/◌, None}
use Rattle.sbi_decode.specs.declared.world.World.{World}
use Rattle.enclave_table.specs.Enclaves.{EnclaveTable, Live, with_enclave}
use Rattle.enclave_table.specs.Views.{host_view}
use Rattle.platforms.specs.CheckLists.{AllPass}
use Rattle.enclave_table.specs.Checks.{host_checks, MayDestroy}
use Rattle.enclave_table.specs.Fewest.{FitsIn}
use Rattle.enclave_table.specs.declared.enclave.Enclave.{Enclave}
use Rattle.pmp_encoding.specs.declared.pages.PageRange.{PageRange}

-- a successful destroy: the enclave is removed, its private pages must be zeroed, and the host's
-- view fits
pub record Destroys (old : EnclaveTable) (world : World) (id : ℕ) (range : PageRange)
    (new : EnclaveTable) : Type 0 where
  pub passes : AllPass (host_checks MayDestroy old world id)
  pub pages : (e : Enclave) → Live old id e
      → range ≡ record {
        first = e.parts.base / 4096;
        count = e.parts.text_pages + e.parts.data_pages;
      }
  pub removed : new ≡ with_enclave old id None
  pub host_fits : FitsIn new.layout.limit (host_view new)
