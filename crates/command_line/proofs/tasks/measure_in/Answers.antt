use Rattle.std.proofs.Common.{inr}
use Rattle.command_line.specs.declared.task.Subcommand.TheVariants as subcommands
use Rattle.command_line.specs.Faults.{IsFirst, demands_of}
use Rattle.command_line.proofs.Refused.{given}
use Rattle.command_line.proofs.Passed.{handed_on}
use Rattle.command_line.specs.Given.{flags_of, values_of}
use Rattle.command_line.proofs.tasks.measure_in.Goals as goal

pub returns-in_err-layout-clause-fault : goal.returns-in_err-layout-clause-fault
returns-in_err-layout-clause-fault c =
    let value = values_of c.args.given.now in
    let flag = flags_of c.args.given.now in
    handed_on c.from_residual-in_err-layout.result c.in_err-layout.field-0.0
    (IsFirst value flag (demands_of subcommands.Measure)) c.from_residual-in_err-layout.ensures.1
    (inr (given value _ _ c.in_ok-file.ensures.value, c.in_err-layout.ensures.fault))
