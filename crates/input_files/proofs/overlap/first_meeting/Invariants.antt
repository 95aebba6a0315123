use Rattle.std.proofs.Common.{ℕ, ◌<◌, get_or}
use Rattle.platforms.specs.Ranges.{AreRangesApart}
use Rattle.input_files.specs.declared.breach.PlacedRange.{PlacedRange}
use Rattle.input_files.proofs.overlap.first_meeting.Given as goal

abbrev pub invariant-loop-other : goal.invariant-loop-other
invariant-loop-other l = (k : ℕ) (d : PlacedRange) → k < l.other-index → AreRangesApart l.bounds (get_or l.others k d).bounds
