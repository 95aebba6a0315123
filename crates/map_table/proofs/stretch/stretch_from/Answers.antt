-- Steps that the prover finds without help, written out for the must-fail edits that break them.
use Rattle.std.proofs.Common.{rules}
use Rattle.map_table.proofs.stretch.stretch_from.Goals as goal

pub returns-clause-stretch : goal.returns-clause-stretch
returns-clause-stretch c = search rules
