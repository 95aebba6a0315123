use Rattle.std.proofs.Common.{◌+◌, ◌<◌, ℕ, map, drop, get_or, All}
use Rattle.platforms.specs.Ranges.{AreRangesApart, device_range}
use Rattle.platforms.proofs.ranges.each_apart.Given as goal

abbrev pub invariant-loop-i : goal.invariant-loop-i
invariant-loop-i l =
    (k : ℕ) (d : ℕ × ℕ) → k < l.i → All (AreRangesApart (get_or l.ranges k d)) (drop (k + 1) l.ranges)
    × All (AreRangesApart (get_or l.ranges k d)) (map device_range l.devices)
