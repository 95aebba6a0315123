use Rattle.std.proofs.Common.{◌≡◌, ◌++◌, ◌+◌, drop}
use Rattle.input_files.specs.Masters.{held_from, held_masters}
use Rattle.input_files.proofs.held_masters.held_masters.Given as goal

-- with those of the devices that are left they are all
abbrev pub invariant-loop-i : goal.invariant-loop-i
invariant-loop-i l = l.held.items ++ held_from (l.i + 1) (drop l.i l.devices) ≡ held_masters l.devices
