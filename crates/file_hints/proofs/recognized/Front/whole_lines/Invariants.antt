use Rattle.std.proofs.Common.{◌≤◌, length}
use Rattle.file_hints.proofs.recognized.Front.whole_lines.Given as goal

abbrev pub invariant-loop-len : goal.invariant-loop-len
invariant-loop-len l = l.len ≤ length l.bytes

abbrev pub decreases-loop-len : goal.decreases-loop-len
decreases-loop-len l = l.len
