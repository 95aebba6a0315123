use Rattle.std.proofs.lemmas.Result.{err_from_is_err_and}
use Rattle.monitor_cli.specs.Platforms.{no_bytes}
use Rattle.monitor_cli.proofs.PlatformRefusals.{no_platform}
use Rattle.monitor_cli.proofs.platform_inputs.read_platform.Goals as goal

pub returns-in_err-bytes-clause-refused : goal.returns-in_err-bytes-clause-refused
returns-in_err-bytes-clause-refused g c =
    let p = err_from_is_err_and c.from_residual.result c.from_residual.ensures.1 in
    rw (p.1, p.2) (no_bytes _ c.in_err-bytes.ensures.refused)

pub returns-clause-refused : goal.returns-clause-refused
returns-clause-refused g c = no_platform c.args.file _ c.in_ok-bytes.bytes.items c.platform_in.result c.in_ok-bytes.ensures.whole
    (rw c.as_slice.ensures.value at c.platform_in.ensures.refused)
