-- The input and output files of a task, by name.
use Rattle.std.specs.Prelude.{◌≡◌, List, ℕ, Option, Some, None, bytes_eq, if◌then◌else◌}
use Rattle.std.specs.Prelude.{option_map}
use Rattle.std.specs.Borrow.{Bor}
use Rattle.command_line.specs.Tasks.{input_word}
use Rattle.command_line.specs.declared.task.Task.{Task}
use Rattle.command_line.specs.Outlines.{outline_of}
use Rattle.command_line.specs.declared.places.InputName.{InputName}
use Rattle.command_line.specs.declared.places.InputName.TheVariants.{File, StandardInput}

-- the file with a name, or standard input for the word `-`
abbrev pub place_of : Bor (List ℕ) → InputName
place_of name = if bytes_eq name.now input_word then StandardInput else File name

-- the certificate file that a task writes
abbrev pub cert_of : Task → Option (Bor (List ℕ))
cert_of task = (outline_of task).cert

-- the first input of a task
abbrev pub first_of : Task → InputName
first_of task = place_of (outline_of task).first

-- the second input of a task
abbrev pub second_of : Task → Option InputName
second_of task = option_map place_of (outline_of task).second

-- a task would read standard input twice
abbrev pub ReadsTwice : Task → Type 0
ReadsTwice task = (first_of task ≡ StandardInput) × (second_of task ≡ Some StandardInput)

-- a certificate would be written to standard output, as `-`
abbrev pub IsToStandardOutput : Option (Bor (List ℕ)) → Type 0
IsToStandardOutput None = ⊥
IsToStandardOutput (Some name) = name.now ≡ input_word
