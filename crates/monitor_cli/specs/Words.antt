-- The task that the words of a command line name.
use Rattle.std.specs.Prelude.{List, Option}
use Rattle.clap.specs.Words.{Row, Text}
use Rattle.command_line.specs.CommandLine.{IsRequest}
use Rattle.command_line.specs.declared.options.Options.{Options}
use Rattle.command_line.specs.declared.task.Task.{Task}
use Rattle.command_line.specs.Tasks.{IsSound}

-- the task is the entered subcommand, with the values of its rows, and it is sound with some
-- options
pub record IsTask (found : Option (Text × List Row)) (task : Task) : Type 0 where
  pub options : Options
  pub request : IsRequest found (record { task = task; options = options })
  pub sound : IsSound task options
