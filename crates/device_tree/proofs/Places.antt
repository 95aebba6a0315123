-- The node at which a tree says no ranges begins at its offset.
use Rattle.std.proofs.Common.{ℕ, List, [], ◌∷◌, ◌++◌, subst}
use Rattle.device_tree.specs.declared.pieces.PlacedPiece.{PlacedPiece}
use Rattle.device_tree.specs.Pieces.{Part, parts_of}
use Rattle.device_tree.specs.Nodes.{Tree}
use Rattle.device_tree.specs.Places.{ArePlaced, BeginsAt, Block}
use Rattle.device_tree.specs.declared.board_fault.BoardFault.{BoardFault}
use Rattle.device_tree.specs.BoardRefusals.{IsBoardFault, IsBoardFaultIn}

placed_behind : (block : Block) (before : List PlacedPiece) (first : PlacedPiece) (later : List PlacedPiece) → ArePlaced block (before ++ first ∷ later)
    → BeginsAt block first.offset (parts_of (first ∷ later))
placed_behind block [] first later are = are.0
placed_behind block (x ∷ before) first later are = placed_behind block before first later are.1

pub in_block : (block : Block) (pieces : List PlacedPiece) (tree : Tree) (fault : BoardFault) → ArePlaced block pieces → IsBoardFault pieces tree fault
    → IsBoardFaultIn block tree fault
in_block block pieces tree fault are w =
    let at = w.2 in
    let here = placed_behind block at.before at.first at.later (subst (λ (x : List PlacedPiece). ArePlaced block x) at.pieces_are are) in (
      w.0,
      w.1,
      subst (λ (x : List Part). BeginsAt block fault.offset x) at.parts_are
          (subst (λ (x : ℕ). BeginsAt block x (parts_of (at.first ∷ at.later))) at.offset_is here),
    )
