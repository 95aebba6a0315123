-- What the prover finds by itself, written down for the edits that break it.
use Rattle.std.proofs.Common.{rules}
use Rattle.pmp_encoding.proofs.perm.Perm.from_bits.Goals as goal

pub returns-in-1-clause-some : goal.returns-in-1-clause-some
returns-in-1-clause-some c = search rules

pub returns-in-1-clause-reserved : goal.returns-in-1-clause-reserved
returns-in-1-clause-reserved c = search rules
