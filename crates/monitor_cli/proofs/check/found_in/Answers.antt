use Rattle.std.proofs.Common.{◌≡◌, Err, ap}
use Rattle.text_lines.specs.declared.stream_fault.SourceFault.TheVariants.{Read}
use Rattle.program_files.proofs.Refusals.{no_bytes}
use Rattle.monitor_cli.proofs.check.found_in.Goals as goal

pub returns-in-Err-clause-refused : goal.returns-in-Err-clause-refused
returns-in-Err-clause-refused g c =
    rw c.of_source.ensures
    (no_bytes _ _ _ c.in-Err.fault
    (λ e. c.in-Err.ensures.large (ap (λ x. Err x) e))
    (λ e. c.in-Err.ensures.failed (ap (λ x. Err x) e))
    (λ other. c.in-Err.ensures.well (λ e. let same : c.in-Err.fault ≡ Read = cc in other same)))
