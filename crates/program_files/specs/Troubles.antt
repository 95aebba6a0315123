-- The failure for each fault, and its exit status.
use Rattle.std.specs.Prelude.{ℕ, List, Result, Ok, Err}
use Rattle.std.specs.Borrow.{Bor}
use Rattle.text_lines.specs.declared.fault.RunFault.{RunFault}
use Rattle.text_lines.specs.declared.fault.RunFault.TheVariants as runs
use Rattle.map_text.specs.declared.map_file.MapFileFault.{MapFileFault}
use Rattle.map_text.specs.declared.map_file.MapFileFault.TheVariants as maps
use Rattle.text_lines.specs.declared.stream_fault.SourceFault.{SourceFault}
use Rattle.text_lines.specs.declared.stream_fault.SourceFault.TheVariants as whole
use Rattle.program_files.specs.declared.trouble.Trouble.{Trouble}
use Rattle.program_files.specs.declared.trouble.Trouble.TheVariants.{NotUnderstood, TooManyRanges}
use Rattle.program_files.specs.declared.trouble.Trouble.TheVariants.{TooLarge, NotAPlatform}
use Rattle.program_files.specs.declared.trouble.Trouble.TheVariants.{TooFar, NeedsEntries}
use Rattle.program_files.specs.declared.trouble.Trouble.TheVariants.{NoBoardText, NoRegisters}
use Rattle.program_files.specs.declared.trouble.Trouble.TheVariants.{CannotRead, CannotWrite}
use Rattle.program_files.specs.declared.trouble.Trouble.TheVariants.{Output, Memory}

-- 2 for bad input, 3 for a device, 4 for memory
abbrev pub trouble_status : Trouble → ℕ
trouble_status (NotUnderstood file line) = 2
trouble_status (TooManyRanges file) = 2
trouble_status (TooLarge file) = 2
trouble_status (NotAPlatform file) = 2
trouble_status (NoBoardText file said) = 2
trouble_status (NoRegisters file) = 2
trouble_status (TooFar file) = 2
trouble_status (NeedsEntries needed) = 2
trouble_status (CannotRead file) = 3
trouble_status (CannotWrite file) = 3
trouble_status Output = 3
trouble_status Memory = 4

-- the failure for a fault of reading a file to its end
abbrev pub source_trouble : Bor (List ℕ) → SourceFault → Trouble
source_trouble file whole.TooLarge = TooLarge file
source_trouble file whole.Read = CannotRead file
source_trouble file whole.Memory = Memory

-- the failure for a fault of a map file
abbrev pub map_trouble : Bor (List ℕ) → MapFileFault → Trouble
map_trouble file (maps.Line n) = NotUnderstood file n
map_trouble file maps.TooManyRanges = TooManyRanges file
map_trouble file maps.Memory = Memory

-- the failure for a fault of running a trace
abbrev pub run_trouble : Bor (List ℕ) → RunFault → Trouble
run_trouble file (runs.Line n) = NotUnderstood file n
run_trouble file runs.TooLong = TooLarge file
run_trouble file runs.Read = CannotRead file
run_trouble file runs.Write = Output
run_trouble file runs.Memory = Memory

-- the exit status of a task
abbrev pub status_of : Result ℕ Trouble → ℕ
status_of (Ok status) = status
status_of (Err trouble) = trouble_status trouble
