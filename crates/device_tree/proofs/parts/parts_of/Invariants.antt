use Rattle.std.proofs.Common.{◌≡◌, ◌+◌, ◌<◌, ◌≤◌, List, ◌++◌}
use Rattle.device_tree.specs.declared.ways.RowPart.{RowPart}
use Rattle.device_tree.specs.Windows.{AreParts, IsPiece, bus_size, path_of, root_address}
use Rattle.device_tree.proofs.parts.parts_of.Given as goal

abbrev pub invariant-parts : goal.invariant-parts
invariant-parts l = record {
  ends : l.part.base + (l.part.size + l.left) ≡ l.fn.row.base + bus_size l.fn.row;
  room : l.part.size + l.left ≤ bus_size l.fn.row;
  some : 0 < l.part.size;
  is_root : l.part.root ≡ root_address (path_of l.way) l.part.base;
  piece : IsPiece (root_address (path_of l.way)) l.part.base l.part.size;
  whole : (later : List RowPart) → AreParts (root_address (path_of l.way)) l.part.base (l.part.size + l.left) later
      → AreParts (root_address (path_of l.way)) l.fn.row.base (bus_size l.fn.row) (l.parts.items ++ later);
}

abbrev pub decreases-parts : goal.decreases-parts
decreases-parts l = l.left
