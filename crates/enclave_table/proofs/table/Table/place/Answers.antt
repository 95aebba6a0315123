-- What the prover finds by itself, written down for the edits that break it.
use Rattle.std.proofs.Common.{rules}
use Rattle.enclave_table.proofs.table.Table.place.Goals as goal

pub invariant_of-self : goal.invariant_of-self
invariant_of-self c = search rules
