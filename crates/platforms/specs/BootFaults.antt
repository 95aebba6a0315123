-- The numbers of the faults of a boot.
use Rattle.std.specs.Prelude.{ℕ}
use Rattle.platforms.specs.declared.boot_fault.BootFault.{BootFault}
use Rattle.platforms.specs.declared.boot_fault.BootFault.TheVariants.{NeedsMoreEntries, Memory}

-- the numbers of the faults
abbrev pub boot_fault_number : BootFault → ℕ
boot_fault_number (NeedsMoreEntries n) = 1
boot_fault_number Memory = 2
