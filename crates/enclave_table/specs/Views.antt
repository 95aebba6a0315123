-- The views of the host and of each enclave.
use Rattle.std.specs.Prelude.{ℕ, ◌+◌, ◌/◌, ◌||◌, cond, false, option_map, unwrap_or}
use Rattle.std.specs.List.{list_any}
use Rattle.pmp_encoding.specs.declared.perm.Perm.{Perm}
use Rattle.pmp_encoding.specs.declared.perm.Perm.TheVariants.{NoAccess, ReadWrite, ReadExecute}
use Rattle.permission_map.specs.Runs.{in_range}
use Rattle.sbi_decode.specs.declared.world.World.{World}
use Rattle.platforms.specs.Platform.{platform_perm}
use Rattle.measurement.specs.Requests.{is_private, is_shared}
use Rattle.enclave_table.specs.Enclaves.{EnclaveTable, enclave_at}
use Rattle.enclave_table.specs.declared.owner.Owner.{Owner}
use Rattle.enclave_table.specs.declared.owner.Owner.TheVariants.{Monitor, Private, Shared, Host}
use Rattle.measurement.specs.declared.request.Create.{Create}
use Rattle.sbi_decode.specs.declared.world.World.TheVariants as world
use Rattle.platforms.specs.Ranges.{has_page}

-- the host has no access to the monitor's pages and the private pages of enclaves, and elsewhere
-- the platform's permission
abbrev pub host_view : EnclaveTable → ℕ → Perm
host_view table page =
    cond (has_page table.layout.monitor page
    || list_any (λ slot. unwrap_or (option_map (λ e. is_private e.parts page) slot) false)
    table.enclaves) NoAccess
    (platform_perm table.layout page)

-- the host's permission on a page, given its owner and the platform's permission
abbrev pub host_perm : Owner → Perm → Perm
host_perm Monitor allowed = NoAccess
host_perm (Private id) allowed = NoAccess
host_perm (Shared id) allowed = allowed
host_perm Host allowed = allowed

-- an enclave may read and execute its text, read and write its data and shared pages, and access
-- nothing else
abbrev pub enclave_view : Create → ℕ → Perm
enclave_view parts page =
    cond (in_range (parts.base / 4096) parts.text_pages page) ReadExecute
    (cond (in_range (parts.base / 4096 + parts.text_pages) parts.data_pages page
    || is_shared parts page) ReadWrite NoAccess)

-- the view of a world: the host, or the running enclave
abbrev pub current_view : EnclaveTable → World → ℕ → Perm
current_view table world.Host page = host_view table page
current_view table (world.Enclave id) page =
    unwrap_or (option_map (λ e. enclave_view e.parts page) (enclave_at table.enclaves id)) NoAccess
