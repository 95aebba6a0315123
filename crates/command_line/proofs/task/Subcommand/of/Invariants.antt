use Rattle.std.proofs.Common.{◌≢◌, All, take}
use Rattle.command_line.specs.Subcommands.{subcommand_word}
use Rattle.command_line.proofs.task.Subcommand.of.Given as goal

abbrev pub invariant-loop-subcommand : goal.invariant-loop-subcommand
invariant-loop-subcommand l = All (λ subcommand. l.word ≢ subcommand_word subcommand) (take l.subcommand-index l.subcommand-items)
