use Rattle.std.proofs.Common.{length}
use Rattle.input_files.proofs.trace_warnings.trace_warnings.Given as goal

abbrev pub decreases-loop-rest : goal.decreases-loop-rest
decreases-loop-rest l = length l.rest
