use Rattle.std.proofs.Common.{◌≡◌, ◌+◌, ◌≤◌, ◌∙◌, ap, sym, ℕ, List, [], ◌∷◌, ◌++◌, append_assoc, map, drop, length, length-drop, arith}
use Rattle.std.proofs.lemmas.List.{drop-drop, map-append, length-map}
use Rattle.device_tree.specs.declared.pieces.PlacedPiece.{PlacedPiece}
use Rattle.device_tree.specs.Pieces.{Part, Setting, has, part_of, parts_of}
use Rattle.device_tree.proofs.head.properties_len.Goals as goal

longer : (P R I : List Part) (s : Setting) (at : ℕ) (before : List Setting) → P ≡ map has before ++ drop at P → R ≡ drop at P → R ≡ has s ∷ I
    → (P ≡ map has (before ++ s ∷ []) ++ drop (at + 1) P) × (at + 1 ≤ length P)
longer P R I s at before e is_rest first =
    let one : drop at P ≡ has s ∷ I = sym is_rest ∙ first in
    let later : I ≡ drop (at + 1) P = sym (ap (drop 1) one) ∙ drop-drop 1 at P in (
      e ∙ ap (λ x. map has before ++ x) (one ∙ ap (λ x. has s ∷ x) later) ∙ sym (append_assoc (map has before) (has s ∷ []) (drop (at + 1) P))
          ∙ ap (λ x. x ++ drop (at + 1) P) (sym (map-append has before (s ∷ []))),
      omega (arith, ap length one, length-drop at P),
    )

pub properties-preserved : goal.properties-preserved
properties-preserved c =
    let before = c.properties.invariant.before in
    let found = c.in-Some.ensures in
    let next = longer (parts_of c.args.pieces.now) (parts_of c.after.result.now) (parts_of c.in-Some.field-0.now) found.0 c.properties.at
    before.0 before.1 c.after.ensures.parts found.1 in
    record {
      within = omega (arith, next.1, length-map c.args.pieces.now (λ (x : PlacedPiece). part_of x.piece));
      before = (before.0 ++ found.0 ∷ [], next.0);
    }
