-- The inputs of a task.
use Rattle.std.specs.Prelude.{◌≡◌, ℕ, List, [], Option, Some, None}
use Rattle.std.specs.Borrow.{Bor}
use Rattle.text_lines.specs.declared.streams.Counted.{Counted}
use Rattle.text_lines.specs.Streams.{failures_of, inner_of}
use Rattle.program_files.specs.declared.devices.InputToRead.{InputToRead}
use Rattle.program_files.specs.declared.reason.Explained.{Explained}
use Rattle.command_line.specs.declared.task.Task.{Task}
use Rattle.command_line.specs.declared.places.InputName.{InputName}
use Rattle.command_line.specs.declared.places.InputName.TheVariants.{File, StandardInput}
use Rattle.command_line.specs.Places.{first_of, second_of}
use Rattle.program_files.specs.Inputs.{IsOfFile, IsOfStream}

-- an input reads from a place, with this standard input; if the task has no such input, its name is
-- that of no file
abbrev pub IsAt : {R S F D : Type 0} → S → Option InputName → InputToRead R S F D → Type 0
IsAt stdin (Some (File name)) input = IsOfFile name input
IsAt stdin (Some StandardInput) input = IsOfStream stdin input
IsAt stdin None input = (name : Bor (List ℕ)) × (name.now ≡ []) × IsOfFile name input

-- an input of a task, which counts failures and records the reason of the last one
abbrev pub Input : Type 0 → Type 0 → Type 0 → Type 0 → Type 0
Input R S F D = Counted (Explained (InputToRead R S F D))

-- the file or the stream of an input
abbrev pub reader_in : {R S F D : Type 0} → Input R S F D → InputToRead R S F D
reader_in {R = R} {S = S} {F = F} {D = D} input =
    (inner_of {T = Explained (InputToRead R S F D)} input).inner

-- an input has not failed
abbrev pub IsFresh : {R S F D : Type 0} → Input R S F D → Type 0
IsFresh input = failures_of input ≡ 0

-- these are the first and the second input of a task, and they have not failed
pub record AreInputs {R S F D : Type 0} (stdin : S) (task : Task) (first second : Input R S F D) :
    Type 0 where
  pub at_first : IsAt stdin (Some (first_of task)) (reader_in first)
  pub at_second : IsAt stdin (second_of task) (reader_in second)
  pub fresh : IsFresh first × IsFresh second
