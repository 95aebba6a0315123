use Rattle.std.proofs.Common.{◌≡◌, ◌+◌, ◌≤◌, drop}
use Rattle.input_files.specs.Positions.{position_after}
use Rattle.input_files.proofs.positions.position_after.Given as goal

abbrev pub invariant-loop-byte : goal.invariant-loop-byte
invariant-loop-byte l =
    (l.line ≤ l.byte-index + 1) × (l.column ≤ l.byte-index + 1)
    × (position_after (drop l.byte-index l.before) l.line l.column ≡ position_after l.before 1 1)
