use Rattle.std.proofs.Common.{refl}
use Rattle.std.proofs.lemmas.Result.{err_from_is_err_and}
use Rattle.monitor_cli.specs.Runs.{not_booted, ran}
use Rattle.monitor_cli.specs.Runs as commands
use Rattle.monitor_cli.proofs.run.do_run.Goals as goal

pub returns-in_err-platform : goal.returns-in_err-platform
returns-in_err-platform g c =
    let p = err_from_is_err_and c.from_residual.result c.from_residual.ensures.1 in
    rw (p.1, p.2) (commands.Runs.no_platform _ c.in_err-platform.ensures.refused refl refl)

pub returns-in_err-machine : goal.returns-in_err-machine
returns-in_err-machine g c =
    let p = err_from_is_err_and c.from_residual-in_err-machine.result c.from_residual-in_err-machine.ensures.1 in
    let fault = c.in_err-machine.ensures.refused in
    rw (p.1, p.2, fault.2) (not_booted _ fault.0 c.in_ok-platform.ensures.made fault.1 refl refl)

pub returns : goal.returns
returns g c = ran _ _ _ c.in_ok-platform.ensures.made c.in_ok-machine.ensures.booted c.run_on.ensures
