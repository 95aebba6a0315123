-- Steps that the prover finds without help, written out for the must-fail edits that break them.
use Rattle.std.proofs.Common.{rules}
use Rattle.map_table.proofs.hull_tree.join.Goals as goal

pub returns-clause-first : goal.returns-clause-first
returns-clause-first c = search rules

pub returns-clause-second : goal.returns-clause-second
returns-clause-second c = search rules
