use Rattle.std.proofs.Common.{◌≡◌, length}
use Rattle.register_audit.specs.LogLines.{is_boot_log}
use Rattle.register_audit.proofs.lines.is_boot_log.Given as goal

abbrev pub invariant-loop-rest : goal.invariant-loop-rest
invariant-loop-rest l = is_boot_log l.rest ≡ is_boot_log l.bytes

abbrev pub decreases-loop-rest : goal.decreases-loop-rest
decreases-loop-rest l = length l.rest
