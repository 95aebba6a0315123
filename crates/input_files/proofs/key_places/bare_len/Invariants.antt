use Rattle.std.proofs.Common.{◌≡◌, ◌+◌, drop}
use Rattle.std.specs.List.{prefix_len}
use Rattle.input_files.specs.KeyPlaces.{is_bare}
use Rattle.input_files.proofs.key_places.bare_len.Given as goal

abbrev pub invariant-loop-i : goal.invariant-loop-i
invariant-loop-i l = l.i + prefix_len is_bare (drop l.i l.text) ≡ prefix_len is_bare l.text
