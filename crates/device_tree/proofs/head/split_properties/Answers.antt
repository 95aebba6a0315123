use Rattle.std.proofs.Common.{◌≡◌, ◌≤◌, ◌∙◌, ap, sym, refl, ℕ, List, ◌++◌, map, take, drop, length, length-drop, arith}
use Rattle.std.proofs.Math.Seq.{take-append_seam}
use Rattle.std.proofs.lemmas.List.{take-map, length-append, length-map}
use Rattle.device_tree.specs.declared.pieces.PlacedPiece.{PlacedPiece}
use Rattle.device_tree.specs.Pieces.{Part, has, part_of, parts_of}
use Rattle.device_tree.proofs.head.split_properties.Goals as goal

front : (A D X : List Part) (n : ℕ) → X ≡ A ++ D → D ≡ drop n X → n ≤ length X → take n X ≡ A
front A D X n e d fits =
    let same : n ≡ length A = omega (arith, ap length e, length-append A D, ap length d, length-drop n X) in
    ap (take n) e ∙ ap (λ (k : ℕ). take k (A ++ D)) same ∙ take-append_seam A D

pub returns-clause-properties : goal.returns-clause-properties
returns-clause-properties c =
    let found = c.properties_len-count.ensures in
    let I = parts_of c.args.pieces.now in
    let n = c.properties_len-count.result in
    let s = found.properties.0 in (
      s,
      found.properties.1 ∙ ap (λ (x : List Part). map has s ++ x) (sym c.after.ensures.parts),
      sym (take-map (λ (x : PlacedPiece). part_of x.piece) n c.args.pieces.now)
          ∙ front (map has s) (drop n I) I n found.properties.1 refl
          (omega (arith, found.within, length-map c.args.pieces.now (λ (x : PlacedPiece). part_of x.piece))),
    )
