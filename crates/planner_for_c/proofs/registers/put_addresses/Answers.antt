-- Steps that the prover finds without help, written out for the must-fail edits that break them.
use Rattle.std.proofs.Common.{rules}
use Rattle.planner_for_c.proofs.registers.put_addresses.Goals as goal

pub loop-i-preserved : goal.loop-i-preserved
loop-i-preserved c = search rules
