-- What the prover finds by itself, written down for the edits that break it.
use Rattle.std.proofs.Common.{rules}
use Rattle.pmp_match.proofs.extents.tor_extent.Goals as goal

pub returns-then-bottom-top : goal.returns-then-bottom-top
returns-then-bottom-top c = search rules
