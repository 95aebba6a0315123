-- Steps that the prover finds without help, written out for the must-fail edits that break them.
use Rattle.std.proofs.Common.{rules}
use Rattle.trap_server.proofs.trap_loop.others.Goals as goal

pub returns : goal.returns
returns c = search rules
