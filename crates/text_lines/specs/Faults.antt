-- The numbers of faults.
use Rattle.std.specs.Prelude.{ℕ}
use Rattle.text_lines.specs.declared.fault.ReadFault.{ReadFault}
use Rattle.text_lines.specs.declared.fault.ReadFault.TheVariants.{LongLine, TooManyBytes, Device}
use Rattle.text_lines.specs.declared.fault.RunFault.{RunFault}
use Rattle.text_lines.specs.declared.fault.RunFault.TheVariants.{Line, TooLong, Read, Write, Memory}

-- the number of a fault
abbrev pub run_fault_number : RunFault → ℕ
run_fault_number (Line n) = 1
run_fault_number TooLong = 2
run_fault_number Read = 3
run_fault_number Write = 4
run_fault_number Memory = 5

-- the fault of a run when no line can be read
abbrev pub run_fault : ReadFault → RunFault
run_fault (LongLine n) = Line n
run_fault TooManyBytes = TooLong
run_fault Device = Read
