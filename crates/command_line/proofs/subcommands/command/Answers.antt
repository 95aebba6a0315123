use Rattle.std.proofs.Common.{◌∙◌, ◌||◌, ap, ap₂, sym}
use Rattle.clap.specs.Words.{app_of}
use Rattle.command_line.specs.CommandLine.{with_arguments}
use Rattle.command_line.proofs.Building.{none_left, with_next_argument}
use Rattle.command_line.proofs.subcommands.command.Goals as goal

pub loop-argument-preserved : goal.loop-argument-preserved
loop-argument-preserved c = record {
  local = c.in_ok-command.ensures.globals ∙ ap₂ ◌||◌ c.loop-argument.invariant.local c.arg.ensures.local;
  app = with_next_argument _ _ _ _ _ _ _ c.loop-argument-test.true (c.in_ok-command.ensures.shape c.arg.ensures.local) c.arg.ensures.rule
      c.loop-argument.invariant.app;
}

pub returns : goal.returns
unfolding with_arguments
returns c = record {
  app = ap (with_arguments (app_of c.loop-argument.command)) (sym (none_left _ _ c.loop-argument-test.false)) ∙ c.loop-argument.invariant.app;
  local = c.loop-argument.invariant.local;
}
