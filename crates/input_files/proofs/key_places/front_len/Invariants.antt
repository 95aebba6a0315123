use Rattle.std.proofs.Common.{◌≡◌, ◌+◌, drop}
use Rattle.input_files.specs.KeyPlaces.{front_len}
use Rattle.input_files.proofs.key_places.front_len.Given as goal

abbrev pub invariant-loop-i : goal.invariant-loop-i
invariant-loop-i l = l.i + front_len (drop l.i l.line) ≡ front_len l.line
