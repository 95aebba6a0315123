use Rattle.std.proofs.Common.{All}
use Rattle.pmp_match.specs.Segments.{IsSegmentOf}
use Rattle.pmp_match.proofs.segments.Segments.of.Given as goal

-- each is a segment of the bank's list
abbrev pub invariant-loop-i : goal.invariant-loop-i
invariant-loop-i l = All (IsSegmentOf l.bank) l.segments
