use Rattle.std.proofs.Common.{◌∙◌, ◌||◌, ap, ap₂, sym, [], ◌∷◌}
use Rattle.clap.specs.Words.{app_of}
use Rattle.command_line.specs.CommandLine.{with_subcommands}
use Rattle.command_line.specs.declared.task.Subcommand.TheVariants.{Audit, Check, Judge, Lint, Map, Measure, Plan, Platform, Run, Show}
use Rattle.command_line.proofs.Building.{none_left, with_next_subcommand}
use Rattle.command_line.proofs.subcommands.program.Goals as goal

pub loop-subcommand-init : goal.loop-subcommand-init
unfolding with_subcommands
loop-subcommand-init c = record {
  local = c.bare_program-program.ensures.local;
  app = ap (λ app. with_subcommands app (Run ∷ Plan ∷ Judge ∷ Check ∷ Show ∷ Audit ∷ Map ∷ Lint ∷ Measure ∷ Platform ∷ [])) c.bare_program-program.ensures.app;
}

pub loop-subcommand-preserved : goal.loop-subcommand-preserved
loop-subcommand-preserved c = record {
  local = c.in_ok-program.ensures.globals ∙ ap₂ ◌||◌ c.loop-subcommand.invariant.local c.in_ok-subcommand_command.ensures.local;
  app = with_next_subcommand _ _ _ _ _ _ _ c.loop-subcommand-test.true (c.in_ok-program.ensures.shape c.in_ok-subcommand_command.ensures.local)
      c.in_ok-subcommand_command.ensures.app
      c.loop-subcommand.invariant.app;
}

pub returns : goal.returns
unfolding with_subcommands
returns c = record {
  app = ap (with_subcommands (app_of c.loop-subcommand.program)) (sym (none_left _ _ c.loop-subcommand-test.false)) ∙ c.loop-subcommand.invariant.app;
  local = c.loop-subcommand.invariant.local;
}
