-- The request of a command line: a task with its options.
use Rattle.std.specs.Prelude.{[], ◌∷◌, Option, Some, codes, ◌≡◌}
use Rattle.command_line.specs.declared.fault.Fault.{Fault}
use Rattle.command_line.specs.declared.hints.Hints.{Hints}
use Rattle.command_line.specs.declared.request.Request.{Request}
use Rattle.command_line.specs.declared.task.Task.{Task}
use Rattle.command_line.specs.Faults.{IsFaultOf, IsFirst, has, names_hints}
use Rattle.command_line.specs.Hints.{hints_word}
use Rattle.command_line.specs.Options.{default_options}
use Rattle.command_line.specs.Subcommands.{Text, word_of}
use Rattle.command_line.specs.Tasks.{HasValues, IsSound}

-- a task with default options
abbrev pub alone : Task → Request
alone task = record { task = task; options = default_options }

-- the request has these values: those of its task and its options, including the word of `--hints`
abbrev pub HasRequest : (Text → Option Text) → (Text → Option Text) → Request → Type 0
HasRequest value flag request = HasValues value flag request.task request.options
    × (value (codes "hints") ≡ Some (hints_word request.options.hints))

-- this subcommand with these values is not a request for a sound task
abbrev pub NamesNoRequest : Text → (Text → Option Text) → (Text → Option Text) → Type 0
NamesNoRequest name value flag = (request : Request) → word_of request.task ≡ name
    → HasRequest value flag request → ¬ IsSound request.task request.options

-- the fault of a subcommand's values: `--hints` is checked first, then the demands of its task
pub data IsFaultOfRequest (name : Text) (value flag : Text
    → Option Text) (fault : Fault) : Type 0 where
  of_hints : IsFirst value flag (has (codes "hints") ∷ names_hints ∷ []) fault
      → IsFaultOfRequest name value flag fault
  of_task : (hints : Hints) → value (codes "hints") ≡ Some (hints_word hints)
      → IsFaultOf name value flag fault → IsFaultOfRequest name value flag fault
