use Rattle.std.proofs.Common.{◌∙◌, ap, sym, List, ◌++◌, take}
use Rattle.std.proofs.lemmas.List.{take-append-drop}
use Rattle.device_tree.specs.declared.pieces.PlacedPiece.{PlacedPiece}
use Rattle.device_tree.proofs.head.after_end.Goals as goal

pub returns-clause-pieces : goal.returns-clause-pieces
returns-clause-pieces c =
    let pieces = c.args.pieces.now in (
      take 1 pieces,
      sym (take-append-drop 1 pieces) ∙ ap (λ (x : List PlacedPiece). take 1 pieces ++ x) (sym c.after.ensures.pieces),
    )
