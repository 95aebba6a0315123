-- The table of tasks: the subcommand and the files of each.
use Rattle.std.specs.Prelude.{ℕ, List, [], Option, Some, None}
use Rattle.std.specs.Borrow.{Bor}
use Rattle.command_line.specs.declared.task.Subcommand.TheVariants as subcommands
use Rattle.command_line.specs.declared.task.Task.{Task}
use Rattle.command_line.specs.declared.task.Task.TheVariants as tasks
use Rattle.command_line.specs.declared.task.TaskOutline.{TaskOutline}

-- the outline of each task: its subcommand, its first and second input, and its certificate file
abbrev pub outline_of : Task → TaskOutline
outline_of (tasks.Run platform trace measure) =
    record { subcommand = subcommands.Run; first = platform; second = Some trace; cert = None }
outline_of (tasks.Plan map cert limit) =
    record { subcommand = subcommands.Plan; first = map; second = None; cert = cert }
outline_of (tasks.Judge map trace limit) =
    record { subcommand = subcommands.Judge; first = map; second = Some trace; cert = None }
outline_of (tasks.Check map cert) =
    record { subcommand = subcommands.Check; first = map; second = Some cert; cert = None }
outline_of (tasks.Audit map registers) =
    record { subcommand = subcommands.Audit; first = map; second = Some registers; cert = None }
outline_of (tasks.Map file) =
    record { subcommand = subcommands.Map; first = file; second = None; cert = None }
outline_of (tasks.Lint file platform) =
    record { subcommand = subcommands.Lint; first = file; second = platform; cert = None }
outline_of (tasks.Show map limit) =
    record { subcommand = subcommands.Show; first = map; second = None; cert = None }
outline_of (tasks.Measure file layout) =
    record { subcommand = subcommands.Measure; first = file; second = None; cert = None }
outline_of (tasks.Platform board monitor) =
    record { subcommand = subcommands.Platform; first = board; second = None; cert = None }

-- the name of a file, or the empty name if there is no file
abbrev pub name_or_none : Option (Bor (List ℕ)) → List ℕ
name_or_none None = []
name_or_none (Some name) = name.now
