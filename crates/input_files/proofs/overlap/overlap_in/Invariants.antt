use Rattle.std.proofs.Common.{ℕ, ◌+◌, ◌<◌, All, drop, get_or}
use Rattle.platforms.specs.Ranges.{AreRangesApart}
use Rattle.input_files.specs.declared.breach.PlacedRange.{PlacedRange}
use Rattle.input_files.proofs.overlap.overlap_in.Given as goal

-- each of the ranges before is apart from those behind it
abbrev pub invariant-loop-i : goal.invariant-loop-i
invariant-loop-i l = (k : ℕ) (d : PlacedRange) → k < l.i → All (λ (other : PlacedRange). AreRangesApart (get_or l.ranges k d).bounds other.bounds)
    (drop (k + 1) l.ranges)
