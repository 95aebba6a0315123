-- What the prover finds by itself, written down for the edits that break it.
use Rattle.std.proofs.Common.{rules}
use Rattle.enclave_table.proofs.table.Table.checked_create.Goals as goal

pub returns-then-not-is_clear-clause-fails : goal.returns-then-not-is_clear-clause-fails
returns-then-not-is_clear-clause-fails c = search rules
