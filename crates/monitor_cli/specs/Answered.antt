-- The result of a command: the exit status, or its failure.
use Rattle.std.specs.Prelude.{ℕ, Bool, true, false, Result, Ok, Err}
use Rattle.program_files.specs.declared.trouble.Trouble.{Trouble}
use Rattle.monitor_cli.specs.declared.answered.Answered.{Answered}

-- the status in the result of a command
abbrev pub status_in : Result Answered Trouble → Result ℕ Trouble
status_in (Ok answered) = Ok answered.status
status_in (Err trouble) = Err trouble

-- the status of a decision: 0 for a yes, and 1 for a no
abbrev pub answer_status : Bool → ℕ
answer_status true = 0
answer_status false = 1

-- the result of a command that decides yes or no
abbrev pub judged : Result Bool Trouble → Result ℕ Trouble
judged (Ok answer) = Ok (answer_status answer)
judged (Err trouble) = Err trouble
