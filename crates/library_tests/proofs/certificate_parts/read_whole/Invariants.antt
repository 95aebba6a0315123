use Rattle.std.proofs.Common.{length}
use Rattle.library_tests.proofs.certificate_parts.read_whole.Given as goal

abbrev pub decreases-loop-open : goal.decreases-loop-open
decreases-loop-open l = length l.reader
