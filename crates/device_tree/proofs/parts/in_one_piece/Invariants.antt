use Rattle.std.proofs.Common.{◌≡◌, ◌-◌, ◌≤◌}
use Rattle.device_tree.specs.Windows.{IsPiece, path_of, root_address}
use Rattle.device_tree.proofs.parts.in_one_piece.Given as goal

abbrev pub invariant-piece : goal.invariant-piece
invariant-piece l = record {
  within : l.part.size ≤ l.fn.extent.size;
  base : l.part.base ≡ l.fn.extent.base;
  is_root : l.part.root ≡ root_address (path_of l.way) l.fn.extent.base;
  piece : IsPiece (root_address (path_of l.way)) l.fn.extent.base l.part.size;
}

abbrev pub decreases-piece : goal.decreases-piece
decreases-piece l = l.fn.extent.size - l.part.size
