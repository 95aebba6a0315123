-- The table at boot.
use Rattle.std.specs.Prelude.{◌<◌, None, replicate, ⊤}
use Rattle.pmp_encoding.specs.Limits.{limit_number}
use Rattle.pmp_match.specs.Meaning.{Needs}
use Rattle.platforms.specs.Platform.{PlatformLayout}
use Rattle.enclave_table.specs.Enclaves.{EnclaveTable}
use Rattle.enclave_table.specs.Views.{host_view}
use Rattle.platforms.specs.declared.boot_fault.BootFault.{BootFault}
use Rattle.platforms.specs.declared.boot_fault.BootFault.TheVariants.{NeedsMoreEntries, Memory}

-- the table without live enclaves
abbrev pub opening_table : PlatformLayout → EnclaveTable
opening_table layout = record { layout = layout; enclaves = replicate 64 None }

-- the host's view needs n entries, which is more than a hart has; or an allocation failed
abbrev pub IsBootFault : PlatformLayout → BootFault → Type 0
IsBootFault layout (NeedsMoreEntries n) = Needs (host_view (opening_table layout)) n
    × (limit_number layout.limit < n)
IsBootFault layout Memory = ⊤
