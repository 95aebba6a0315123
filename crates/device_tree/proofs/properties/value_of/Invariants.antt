use Rattle.std.proofs.Common.{◌≡◌, drop}
use Rattle.device_tree.specs.Pieces.{parts_of}
use Rattle.device_tree.specs.Properties.{value_in}
use Rattle.device_tree.proofs.properties.value_of.Given as goal

abbrev pub invariant-loop-placed : goal.invariant-loop-placed
invariant-loop-placed l = value_in l.wanted (parts_of (drop l.placed-index l.properties)) ≡ value_in l.wanted (parts_of l.properties)
