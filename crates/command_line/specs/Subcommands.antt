-- The program's subcommands: the word that names each, and the subcommand of each task.
use Rattle.std.specs.Prelude.{ℕ, List, ◌++◌, codes}
use Rattle.command_line.specs.declared.task.Subcommand.{Subcommand}
use Rattle.command_line.specs.declared.task.Subcommand.TheVariants as subcommands
use Rattle.command_line.specs.declared.task.Task.{Task}
use Rattle.command_line.specs.Outlines.{outline_of}

-- bytes of UTF-8
abbrev pub Text : Type 0
Text = List ℕ

-- the word that names a subcommand
abbrev pub subcommand_word : Subcommand → Text
subcommand_word subcommands.Run = codes "run"
subcommand_word subcommands.Plan = codes "plan"
subcommand_word subcommands.Judge = codes "judge"
subcommand_word subcommands.Check = codes "check"
subcommand_word subcommands.Show = codes "show"
subcommand_word subcommands.Audit = codes "audit"
subcommand_word subcommands.Map = codes "map"
subcommand_word subcommands.Lint = codes "lint"
subcommand_word subcommands.Measure = codes "measure"
subcommand_word subcommands.Platform = codes "platform"

-- the program's word and the subcommand's, as a user enters them
abbrev pub usage_words : Subcommand → Text
usage_words subcommand = codes "pmpmon " ++ subcommand_word subcommand

-- the subcommand that a task is
abbrev pub subcommand_of : Task → Subcommand
subcommand_of task = (outline_of task).subcommand

-- the word that names a task's subcommand
abbrev pub word_of : Task → Text
word_of task = subcommand_word (subcommand_of task)
