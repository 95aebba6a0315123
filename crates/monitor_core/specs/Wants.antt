-- The conditions for refusing a creation or a destruction with `NoEntries`.
use Rattle.std.specs.Prelude.{◌⊎◌, Option, None, Some, cond}
use Rattle.pmp_encoding.specs.declared.perm.Perm.TheVariants.{NoAccess}
use Rattle.measurement.specs.Requests.{parts_of, is_private}
use Rattle.enclave_table.specs.Enclaves.{EnclaveTable, with_enclave}
use Rattle.enclave_table.specs.Views.{host_view, enclave_view}
use Rattle.platforms.specs.CheckLists.{AllPass}
use Rattle.enclave_table.specs.Checks.{create_checks, host_checks, MayDestroy}
use Rattle.enclave_table.specs.Fewest.{NeedsMore}
use Rattle.enclave_table.specs.declared.refusal.Refusal.TheVariants.{NoEntries, NoMemory}
use Rattle.enclave_table.specs.declared.refusal.Refusal.{Refusal}
use Rattle.sbi_decode.specs.declared.world.World.{World}
use Rattle.sbi_decode.specs.declared.calls.Call.{Call}
use Rattle.sbi_decode.specs.declared.calls.Call.TheVariants as calls

-- the conditions of a creation or a destruction: every check passes except those on entries and
-- memory; and a resulting view would need more entries than a hart has, either the host's, which
-- excludes the private pages of a new enclave, or that of the new enclave
abbrev pub wants_of : Option Call → EnclaveTable → World → Type 0 × Type 0
wants_of (Some (calls.Create base text_pages data_pages shared_base shared_count entry_offset))
    table world =
    let parts = parts_of (record {
      base = base;
      text_pages = text_pages;
      data_pages = data_pages;
      shared_base = shared_base;
      shared_count = shared_count;
      entry_offset = entry_offset;
    }) in (
      AllPass (create_checks table world parts),
      NeedsMore table.layout.limit (λ page. cond (is_private parts page) NoAccess
          (host_view table page)) ⊎ NeedsMore table.layout.limit (enclave_view parts),
    )
wants_of (Some (calls.Destroy id)) table world = (
  AllPass (host_checks MayDestroy table world id),
  NeedsMore table.layout.limit (host_view (with_enclave table id None)),
)
wants_of _ table world = (⊥, ⊥)

-- `NoEntries` is returned only for these calls, and only if a resulting view would need more
-- entries than a hart has. If one would, the call fails with `NoEntries` or `NoMemory`. No other
-- call fails with either
pub record IsRefusedByNeed (call : Option Call) (table : EnclaveTable) (world : World)
    (IsAnswered : Refusal → Type 0) : Type 0 where
  pub entries : IsAnswered NoEntries → (wants_of call table world).0 × (wants_of call table world).1
  pub outgrown : (wants_of call table world).0 → (wants_of call table world).1
      → IsAnswered NoEntries ⊎ IsAnswered NoMemory
  pub memory : IsAnswered NoMemory → (wants_of call table world).0
