-- The numbers of the faults.
use Rattle.std.specs.Prelude.{ℕ}
use Rattle.input_files.specs.declared.fault.TextFault.{TextFault}
use Rattle.input_files.specs.declared.fault.TextFault.TheVariants.{NotAPlatform, Memory}

-- the number of a fault, for a program in C
abbrev pub text_fault_number : TextFault → ℕ
text_fault_number NotAPlatform = 1
text_fault_number Memory = 2
