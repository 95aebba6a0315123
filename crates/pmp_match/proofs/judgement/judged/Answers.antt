-- What the prover finds by itself, written down for the edits that break it.
use Rattle.std.proofs.Common.{rules}
use Rattle.pmp_match.proofs.judgement.judged.Goals as goal

pub returns : goal.returns
returns c = search rules

pub returns-then-access-ge-SPACE_SIZE : goal.returns-then-access-ge-SPACE_SIZE
returns-then-access-ge-SPACE_SIZE c = search rules
