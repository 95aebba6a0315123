-- What the prover finds by itself, written down for the edits that break it.
use Rattle.std.proofs.Common.{rules}
use Rattle.platforms.proofs.platform.Platform.with_harts.Goals as goal

pub invariant_of-platform : goal.invariant_of-platform
invariant_of-platform c = search rules

pub returns-clause-value : goal.returns-clause-value
returns-clause-value c = search rules
