-- Steps that the prover finds without help, written out for the must-fail edits that break them.
use Rattle.std.proofs.Common.{rules}
use Rattle.planner_for_c.proofs.settings.set.Goals as goal

pub returns-in-Err-PastEnd-clause-fault : goal.returns-in-Err-PastEnd-clause-fault
returns-in-Err-PastEnd-clause-fault c = search rules
