use Rattle.std.proofs.Common.{◌≡◌, ◌++◌, drop}
use Rattle.register_audit.specs.Modes.{entries_from}
use Rattle.register_audit.proofs.modes.entries_given.Given as goal

abbrev pub invariant-loop-place : goal.invariant-loop-place
invariant-loop-place l =
    l.given.items ++ entries_from l.registers l.mode l.place (drop l.place l.extents) ≡ entries_from l.registers l.mode 0 l.extents
