-- Steps that the prover finds without help, written out for the must-fail edits that break them.
use Rattle.std.proofs.Common.{rules}
use Rattle.trap_server.proofs.trap.event_in.Goals as goal

pub returns-in-1886352499-clause-some : goal.returns-in-1886352499-clause-some
returns-in-1886352499-clause-some c = search rules
