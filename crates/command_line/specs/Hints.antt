-- The setting for hints.
use Rattle.std.specs.Prelude.{Bool, true, false, codes}
use Rattle.command_line.specs.declared.hints.Hints.{Hints}
use Rattle.command_line.specs.declared.hints.Hints.TheVariants.{Auto, Always, Never}
use Rattle.command_line.specs.Subcommands.{Text}

-- the word for when hints are printed
abbrev pub hints_word : Hints → Text
hints_word Auto = codes "auto"
hints_word Always = codes "always"
hints_word Never = codes "never"

-- hints are printed, given whether standard error is a terminal
abbrev pub are_told : Hints → Bool → Bool
are_told Auto is_terminal = is_terminal
are_told Always is_terminal = true
are_told Never is_terminal = false
