-- What the prover finds by itself, written down for the edits that break it.
use Rattle.std.proofs.Common.{rules}
use Rattle.pmp_match.proofs.extents.reserved_of.Goals as goal

pub returns-else-cfg-ne0-clause-none : goal.returns-else-cfg-ne0-clause-none
returns-else-cfg-ne0-clause-none c = search rules

pub returns-then-cfg-ne0-clause-some : goal.returns-then-cfg-ne0-clause-some
returns-then-cfg-ne0-clause-some c = search rules
