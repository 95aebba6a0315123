-- What the prover finds by itself, written down for the edits that break it.
use Rattle.std.proofs.Common.{rules}
use Rattle.pmp_match.proofs.extents.kept.Goals as goal

pub returns-in-Rv64-clause-value : goal.returns-in-Rv64-clause-value
returns-in-Rv64-clause-value c = search rules

pub returns-in-Rv64-clause-small : goal.returns-in-Rv64-clause-small
returns-in-Rv64-clause-small c = search rules
