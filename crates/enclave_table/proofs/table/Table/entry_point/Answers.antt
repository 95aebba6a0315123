-- What the prover finds by itself, written down for the edits that break it.
use Rattle.std.proofs.Common.{rules}
use Rattle.enclave_table.proofs.table.Table.entry_point.Goals as goal

pub returns : goal.returns
returns c = search rules
