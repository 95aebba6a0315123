use Rattle.std.proofs.Common.{◌≡◌, ◌++◌, ◌∷◌, [], drop}
use Rattle.host_tree.specs.Extensions.{open_from}
use Rattle.host_tree.proofs.extensions.open_units.Given as goal

abbrev pub invariant-loop-byte : goal.invariant-loop-byte
invariant-loop-byte l = l.open.items ++ open_from l.unit.items (drop l.byte-index l.names) ≡ open_from (95 ∷ []) l.names
