use Rattle.std.proofs.Common.{◌≡◌, ◌++◌, ◌+◌, drop, map}
use Rattle.platforms.specs.Ranges.{device_range}
use Rattle.input_files.specs.declared.breach.TomlPath.TheVariants.{Ram, Device}
use Rattle.input_files.specs.Overlaps.{placed_from, placed_ranges}
use Rattle.input_files.proofs.overlap.placed_ranges.Given as goal

-- with those that are left they are all ranges of memory
abbrev pub invariant-loop-i : goal.invariant-loop-i
invariant-loop-i l = l.all.items ++ placed_from Ram (l.i + 1) (drop l.i l.ram) ≡ placed_from Ram 1 l.ram

-- with those that are left they are all
abbrev pub invariant-loop-i-2 : goal.invariant-loop-i-2
invariant-loop-i-2 l = l.all.items ++ placed_from Device (l.i + 1) (map device_range (drop l.i l.devices)) ≡ placed_ranges l.ram l.devices
