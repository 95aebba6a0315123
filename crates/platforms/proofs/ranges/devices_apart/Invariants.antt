use Rattle.std.proofs.Common.{◌+◌, ◌<◌, ℕ, map, drop, get_or, All}
use Rattle.pmp_encoding.specs.declared.perm.Perm.{Perm}
use Rattle.platforms.specs.Ranges.{AreRangesApart, device_range}
use Rattle.platforms.proofs.ranges.devices_apart.Given as goal

abbrev pub invariant-loop-i : goal.invariant-loop-i
invariant-loop-i l = (k : ℕ) (d : ℕ × ℕ × Perm) → k < l.i → All (AreRangesApart (device_range (get_or l.devices k d)))
    (map device_range (drop (k + 1) l.devices))
