use Rattle.std.proofs.Common.{◌≡◌, ◌∙◌, ◌+◌, ◌-◌, ap, sym, subst, refl, [], ◌∷◌, ◌++◌, List, ℕ, length, append-nil, length-drop, drop, arith}
use Rattle.std.proofs.lemmas.List.{map-append}
use Rattle.device_tree.specs.declared.pieces.PlacedPiece.{PlacedPiece}
use Rattle.device_tree.specs.Pieces.{Part, SpellsParts, parts_of, part_of, part, the_end, skipped}
use Rattle.device_tree.specs.Places.{ComesTo, at_front, behind_skip, behind_part, block_at}
use Rattle.device_tree.specs.Refusals.{IsTokenFault}
use Rattle.device_tree.proofs.TreeParts.{behind_nop, left_behind, shorter, taken}
use Rattle.device_tree.proofs.Placed.{PlacedBefore, all_placed, and_placed, begins_here, cut_behind, cut_behind_part, from_here}
use Rattle.device_tree.proofs.pieces.pieces_in.Goals as goal

pub pieces-init : goal.pieces-init
pieces-init c =
    let s = c.args.strings.now in
    let b = c.args.block.now in
    let none = sym c.new-pieces.ensures.items in
    let all : 0 ≡ length b - length b = omega arith in
    record {
      inside = omega arith;
      cut = ap (λ k. drop k b) all;
      whole = λ later spelt. subst (λ (x : List PlacedPiece). SpellsParts s b (parts_of x ++ later)) none spelt;
      left = λ parts spelt. (parts, subst (λ (x : List PlacedPiece). parts ≡ parts_of x ++ parts) none refl, spelt);
      comes = subst (λ (x : List PlacedPiece). ComesTo s b (parts_of x) b) none at_front;
      placed = λ later spelt. subst (λ (x : List PlacedPiece). PlacedBefore (block_at s b c.args.start) x later) none tt;
    }

pub pieces-preserved-in-Ok-Skip : goal.pieces-preserved-in-Ok-Skip
pieces-preserved-in-Ok-Skip c =
    let step = rw c.in-Ok-Skip.field-0-is at c.in-Ok-Skip.ensures.step in
    let was = c.pieces.invariant in
    let s = c.args.strings.now in
    let b = c.args.block.now in
    let here : c.in-Ok-Skip.later.now ≡ drop 4 c.pieces.rest.now = step.1.behind in
    record {
      inside = omega (arith, was.inside, ap length here, length-drop 4 c.pieces.rest.now);
      cut = cut_behind b c.pieces.rest.now c.in-Ok-Skip.later.now 4 was.cut was.inside step.1;
      whole = λ later spelt. was.whole later (skipped step.0 (subst (λ x. SpellsParts s x later) here spelt));
      left = λ parts spelt. let w = was.left parts spelt in
          (w.0, w.1, subst (λ x. SpellsParts s x w.0) (sym here) (behind_nop s c.pieces.rest.now w.0 step.0 w.2));
      comes = subst (λ (x : List ℕ). ComesTo s b (parts_of c.pieces.pieces.items) x) (sym here)
          (behind_skip (parts_of c.pieces.pieces.items) c.pieces.rest.now was.comes step.0);
      placed = λ later spelt. was.placed later (skipped step.0 (subst (λ x. SpellsParts s x later) here spelt));
    }

pub pieces-preserved : goal.pieces-preserved
pieces-preserved c =
    let step = rw c.in-Ok-Take.field-0-is at c.in-Ok-Take.ensures.step in
    let was = c.pieces.invariant in
    let s = c.args.strings.now in
    let b = c.args.block.now in
    let r = c.pieces.rest.now in
    let t = c.in-Ok-Take.later.now in
    let p = part_of c.in-Ok-Take.piece in
    let items = c.pieces.pieces.items in
    let before = parts_of items in
    let block = block_at s b c.args.start in
    let x : PlacedPiece = record { offset = c.args.start + (length b - length r); piece = c.in-Ok-Take.piece } in
    let now : parts_of c.push.new.self.items ≡ before ++ p ∷ [] =
    ap parts_of c.in-Ok.ensures.items ∙ map-append (λ (y : PlacedPiece). part_of y.piece) items _ in
    let less = shorter s r p t step in
    record {
      inside = omega (arith, was.inside, less);
      cut = cut_behind_part s b r t p was.cut was.inside step;
      whole = λ later spelt. subst (λ y. SpellsParts s b (y ++ later)) (sym now) (taken s b r t before p was.whole step later spelt);
      left = λ parts spelt. let w = left_behind s b r t before p was.left step parts spelt in
          (w.0, w.1 ∙ ap (λ y. y ++ w.0) (sym now), w.2);
      comes = subst (λ (y : List Part). ComesTo s b y t) (sym now) (behind_part before r t p was.comes step);
      placed = λ later spelt. subst (λ (y : List PlacedPiece). PlacedBefore block y later) (sym c.in-Ok.ensures.items)
          (and_placed block items x later (was.placed (p ∷ later) (part step spelt))
          (begins_here s b r t c.args.start x.offset p later was.cut refl step spelt));
    }

pub returns-clause-ok : goal.returns-clause-ok
returns-clause-ok c =
    let step = rw c.in-Ok-Stop.field-0-is at c.in-Ok-Stop.ensures.step in
    subst (λ x. SpellsParts c.args.strings.now c.args.block.now x) (append-nil _) (c.pieces.invariant.whole [] (the_end step.0 step.1))

pub returns-clause-places : goal.returns-clause-places
returns-clause-places c =
    let step = rw c.in-Ok-Stop.field-0-is at c.in-Ok-Stop.ensures.step in
    let block = block_at c.args.strings.now c.args.block.now c.args.start in
    all_placed block c.pieces.pieces.items (c.pieces.invariant.placed [] (the_end step.0 step.1))

pub returns-in-Err-clause-reason : goal.returns-in-Err-clause-reason
returns-in-Err-clause-reason c = λ _.
    let was = c.pieces.invariant in
    let s = c.args.strings.now in
    let b = c.args.block.now in
    let r = c.pieces.rest.now in
    let here = from_here s b r c.args.start (c.args.start + (length b - length r)) was.cut refl in
    record {
      before = parts_of c.pieces.pieces.items;
      inside = omega arith;
      comes = subst (λ (x : List ℕ). ComesTo s b (parts_of c.pieces.pieces.items) x) here was.comes;
      wrong = subst (λ (x : List ℕ). IsTokenFault s x c.in-Err.reason) here c.in-Err.ensures.reason;
    }
