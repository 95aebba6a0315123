-- Steps that the prover finds without help, written out for the must-fail edits that break them.
use Rattle.std.proofs.Common.{rules}
use Rattle.trap_server.proofs.service.wake_all.Goals as goal

pub returns-clause-marks : goal.returns-clause-marks
returns-clause-marks c = search rules

pub returns-clause-state : goal.returns-clause-state
returns-clause-state c = search rules
