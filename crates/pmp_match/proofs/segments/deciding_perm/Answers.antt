-- What the prover finds by itself, written down for the edits that break it.
use Rattle.std.proofs.Common.{arith}
use Rattle.std.proofs.lemmas.Grind.{common_steps}
use Rattle.pmp_match.proofs.segments.deciding_perm.Goals as goal

pub returns-then-base-extent : goal.returns-then-base-extent
returns-then-base-extent c = grind (arith, common_steps)
