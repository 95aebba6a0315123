-- Steps that the prover finds without help, written out for the must-fail edits that break them.
use Rattle.std.proofs.Common.{rules}
use Rattle.text_lines.proofs.streams.CountedSink.write.Goals as goal

pub returns-else-n-eq0-clause-stalls : goal.returns-else-n-eq0-clause-stalls
returns-else-n-eq0-clause-stalls g c = search rules
