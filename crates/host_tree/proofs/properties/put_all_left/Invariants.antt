use Rattle.std.proofs.Common.{◌≡◌, List, map}
use Rattle.device_tree.specs.Pieces.{Setting, has, parts_of}
use Rattle.host_tree.proofs.Steps.{Left}
use Rattle.host_tree.proofs.properties.put_all_left.Given as goal

abbrev pub invariant-loop-placed : goal.invariant-loop-placed
invariant-loop-placed l = (own : List Setting) → parts_of l.properties ≡ map has own
    → Left l.is_hart l.is_closed l.properties l.placed-index own l.initial.writer l.writer
