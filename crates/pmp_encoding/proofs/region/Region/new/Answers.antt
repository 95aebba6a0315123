-- What the prover finds by itself, written down for the edits that break it.
use Rattle.std.proofs.Common.{rules}
use Rattle.pmp_encoding.proofs.region.Region.new.Goals as goal

pub returns-then-base-size-ne0-clause-some : goal.returns-then-base-size-ne0-clause-some
returns-then-base-size-ne0-clause-some c = search rules

pub invariant_of-result : goal.invariant_of-result
invariant_of-result c = search rules
