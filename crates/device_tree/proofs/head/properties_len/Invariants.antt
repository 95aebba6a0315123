use Rattle.std.proofs.Common.{◌≡◌, ◌≤◌, ◌-◌, List, ◌++◌, drop, length, map}
use Rattle.device_tree.specs.Pieces.{Setting, has, parts_of}
use Rattle.device_tree.proofs.head.properties_len.Given as goal

abbrev pub invariant-properties : goal.invariant-properties
invariant-properties l = record {
  within : l.at ≤ length l.pieces;
  before : (properties : List Setting) × (parts_of l.pieces ≡ map has properties ++ drop l.at (parts_of l.pieces));
}

abbrev pub decreases-properties : goal.decreases-properties
decreases-properties l = length l.pieces - l.at
