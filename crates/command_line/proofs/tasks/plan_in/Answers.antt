use Rattle.command_line.specs.declared.task.Subcommand.TheVariants as subcommands
use Rattle.command_line.specs.Faults.{IsFirst, demands_of}
use Rattle.command_line.proofs.Begins.{begins_wrongly}
use Rattle.command_line.proofs.Passed.{handed_on}
use Rattle.command_line.specs.Given.{flags_of, values_of}
use Rattle.command_line.proofs.tasks.plan_in.Goals as goal

pub returns-in_err-first-clause-fault : goal.returns-in_err-first-clause-fault
returns-in_err-first-clause-fault c =
    let value = values_of c.args.given.now in
    let flag = flags_of c.args.given.now in
    handed_on c.from_residual-in_err-first.result c.in_err-first.field-0.0
    (IsFirst value flag (demands_of subcommands.Plan)) c.from_residual-in_err-first.ensures.1
    (begins_wrongly value flag _ _ _ _ _ _ _ _ c.in_ok-map.ensures.value c.in_ok-cert.ensures.value c.in_ok-cert.ensures.other c.in_ok-limit.ensures.value
    c.in_ok-at_most.ensures.value
    c.in_ok-format.ensures.value c.in_ok-xlen.ensures.value c.in_ok-name.ensures.value c.in_ok-name.ensures.identifier c.in_err-first.ensures.fault)
