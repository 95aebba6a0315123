use Rattle.std.proofs.Common.{length}
use Rattle.file_hints.proofs.recognized.are_events.Given as goal

abbrev pub decreases-loop-rest : goal.decreases-loop-rest
decreases-loop-rest l = length l.rest
