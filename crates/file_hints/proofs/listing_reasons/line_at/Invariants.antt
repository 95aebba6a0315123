use Rattle.std.proofs.Common.{length}
use Rattle.file_hints.proofs.listing_reasons.line_at.Given as goal

abbrev pub decreases-loop-rest : goal.decreases-loop-rest
decreases-loop-rest l = length l.rest
