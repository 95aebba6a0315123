use Rattle.std.proofs.Common.{◌≡◌, false, drop}
use Rattle.clap.specs.Words.{app_of}
use Rattle.clap.specs.declared.builder.command.Command.TheViews.{out-Command}
use Rattle.command_line.specs.CommandLine.{program_app, with_subcommands}
use Rattle.command_line.proofs.subcommands.program.Given as goal

abbrev pub invariant-loop-subcommand : goal.invariant-loop-subcommand
invariant-loop-subcommand l = record {
  local : (out-Command l.program).has_globals ≡ false;
  app : with_subcommands (app_of l.program) (drop l.subcommand-index l.subcommand-items) ≡ program_app;
}
