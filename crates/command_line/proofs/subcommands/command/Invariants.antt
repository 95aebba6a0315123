use Rattle.std.proofs.Common.{◌≡◌, false, drop}
use Rattle.clap.specs.Words.{app_of, new_app}
use Rattle.clap.specs.declared.builder.command.Command.TheViews.{out-Command}
use Rattle.command_line.specs.CommandLine.{with_arguments}
use Rattle.command_line.proofs.subcommands.command.Given as goal

abbrev pub invariant-loop-argument : goal.invariant-loop-argument
invariant-loop-argument l = record {
  local : (out-Command l.command).has_globals ≡ false;
  app : with_arguments (app_of l.command) (drop l.argument-index l.arguments) ≡ with_arguments (new_app l.name) l.arguments;
}
