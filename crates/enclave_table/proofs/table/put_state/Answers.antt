-- What the prover finds by itself, written down for the edits that break it.
use Rattle.std.proofs.Common.{rules}
use Rattle.enclave_table.proofs.table.put_state.Goals as goal

pub returns-in-Some : goal.returns-in-Some
returns-in-Some c = search rules
