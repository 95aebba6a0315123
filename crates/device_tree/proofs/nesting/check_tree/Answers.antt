use Rattle.std.proofs.Common.{◌≡◌, ◌∙◌, ap, sym, refl, subst, ◌+◌, ◌++◌, List, [], ◌∷◌, drop, length, true, false, arith}
use Rattle.std.specs.Prelude.{◌==◌}
use Rattle.std.proofs.lemmas.Bool.{eqb-true}
use Rattle.device_tree.specs.declared.pieces.PlacedPiece.{PlacedPiece}
use Rattle.device_tree.specs.Pieces.{Part, ends, parts_of}
use Rattle.device_tree.proofs.OneTree.{a_tree, begun_at, behind_children, no_children, none_at}
use Rattle.device_tree.specs.Nodes.{BeginsNoNode, no_nodes, parts_of_nodes}
use Rattle.device_tree.specs.Refusals.{no_root}
use Rattle.device_tree.proofs.Shapes.{head_after, head_parts, inner_place, opened, wrong_behind, wrong_deeper, wrong_in_root, wrong_open}
use Rattle.device_tree.proofs.nesting.check_tree.Goals as goal

none_left : (pieces : List PlacedPiece) → true ≡ (length pieces == 0) → parts_of pieces ≡ []
none_left [] e = refl
none_left (x ∷ pieces) e = let zero_len = eqb-true (length (x ∷ pieces)) 0 (sym e) in absurd (omega (arith, zero_len))

some_left : (pieces : List PlacedPiece) → parts_of pieces ≡ [] → false ≡ (length pieces == 0) → ⊥
some_left [] none e = cc
some_left (x ∷ pieces) none e = cc

pub returns-in-Err-clause-refused : goal.returns-in-Err-clause-refused
returns-in-Err-clause-refused c =
    let P = parts_of c.args.pieces.now in
    let I = parts_of c.in-Some.inner.now in
    let C = parts_of c.after-children.result.now in
    let p = c.properties_len-properties.result in
    let properties = c.properties_len-properties.ensures.properties in
    let begun = begun_at P P I C [] properties.0 p refl c.in-Some.ensures.parts properties.1 c.after-children.ensures.parts in
    no_children P C properties.0 begun (none_at C I p c.after-children.ensures.parts c.properties_len-properties.ensures.no_more) c.in-Err.ensures.refused

pub returns-in_default-after_end-clause-refused : goal.returns-in_default-after_end-clause-refused
returns-in_default-after_end-clause-refused c = λ tree is.
    let P = parts_of c.args.pieces.now in
    let I = parts_of c.in-Some.inner.now in
    let C = parts_of c.after-children.result.now in
    let p = c.properties_len-properties.result in
    let properties = c.properties_len-properties.ensures.properties in
    let begun = begun_at P P I C [] properties.0 p refl c.in-Some.ensures.parts properties.1 c.after-children.ensures.parts in
    let no_property = none_at C I p c.after-children.ensures.parts c.properties_len-properties.ensures.no_more in
    let inside = c.in-Ok.ensures.ok in
    c.in_default-after_end.ensures.parts []
    (c.after-behind.ensures.parts ∙ behind_children P C properties.0 inside.0 (drop c.in-Ok.len C) begun no_property inside.1 tree is)

pub returns-then-not-is_empty-clause-refused : goal.returns-then-not-is_empty-clause-refused
returns-then-not-is_empty-clause-refused c = λ tree is.
    let P = parts_of c.args.pieces.now in
    let I = parts_of c.in-Some.inner.now in
    let C = parts_of c.after-children.result.now in
    let p = c.properties_len-properties.result in
    let properties = c.properties_len-properties.ensures.properties in
    let begun = begun_at P P I C [] properties.0 p refl c.in-Some.ensures.parts properties.1 c.after-children.ensures.parts in
    let no_property = none_at C I p c.after-children.ensures.parts c.properties_len-properties.ensures.no_more in
    let inside = c.in-Ok.ensures.ok in
    let alone = behind_children P C properties.0 inside.0 (drop c.in-Ok.len C) begun no_property inside.1 tree is in
    let none : parts_of c.in-Some-after_end.later.now ≡ [] = ap (drop 1) (sym c.in-Some-after_end.ensures.parts ∙ c.after-behind.ensures.parts ∙ alone) in
    some_left c.in-Some-after_end.later.now none c.if-not-is_empty.ensures

pub returns-clause-ok : goal.returns-clause-ok
returns-clause-ok c =
    let P = parts_of c.args.pieces.now in
    let I = parts_of c.in-Some.inner.now in
    let C = parts_of c.after-children.result.now in
    let p = c.properties_len-properties.result in
    let properties = c.properties_len-properties.ensures.properties in
    let begun = begun_at P P I C [] properties.0 p refl c.in-Some.ensures.parts properties.1 c.after-children.ensures.parts in
    let inside = c.in-Ok.ensures.ok in
    let none : parts_of c.in-Some-after_end.later.now ≡ [] = none_left c.in-Some-after_end.later.now c.if-not-is_empty.ensures in
    a_tree P C properties.0 inside.0 (drop c.in-Ok.len C) begun inside.1
    (sym c.after-behind.ensures.parts ∙ c.in-Some-after_end.ensures.parts ∙ ap (λ (x : List Part). ends ∷ x) none)

pub returns-in-Err-clause-reason : goal.returns-in-Err-clause-reason
returns-in-Err-clause-reason c =
    let P = c.args.pieces.now in
    let I = c.in-Some.inner.now in
    let C = c.after-children.result.now in
    let p = c.properties_len-properties.result in
    let properties = c.properties_len-properties.ensures.properties in
    let s = properties.0 in
    let begun_there = begun_at (parts_of P) (parts_of P) (parts_of I) (parts_of C) [] s p refl c.in-Some.ensures.parts properties.1
    c.after-children.ensures.parts in
    let whole = head_parts (parts_of P) (parts_of P) (parts_of C) no_nodes [] s refl begun_there in
    let place = inner_place P P I C 0 p refl c.in-Some.ensures.rest c.after-children.ensures.pieces in
    wrong_in_root P c.args.end c.in-Err.fault
    (wrong_deeper 63 P C (head_after no_nodes [] s) (0 + (1 + p)) c.args.end c.in-Err.fault whole place (opened no_nodes [] s) c.in-Err.ensures.reason)

pub returns-in_default-after_end-clause-reason : goal.returns-in_default-after_end-clause-reason
returns-in_default-after_end-clause-reason c =
    let P = c.args.pieces.now in
    let I = c.in-Some.inner.now in
    let C = c.after-children.result.now in
    let p = c.properties_len-properties.result in
    let properties = c.properties_len-properties.ensures.properties in
    let s = properties.0 in
    let begun_there = begun_at (parts_of P) (parts_of P) (parts_of I) (parts_of C) [] s p refl c.in-Some.ensures.parts properties.1
    c.after-children.ensures.parts in
    let whole = head_parts (parts_of P) (parts_of P) (parts_of C) no_nodes [] s refl begun_there in
    let place = inner_place P P I C 0 p refl c.in-Some.ensures.rest c.after-children.ensures.pieces in
    let D = c.after-behind.result.now in
    let inside = c.in-Ok.ensures.ok in
    let inside_parts : parts_of C ≡ parts_of_nodes inside.0 ++ parts_of D =
    inside.1.parts_are ∙ ap (λ (x : List Part). parts_of_nodes inside.0 ++ x) (sym c.after-behind.ensures.parts) in
    let no_property = none_at (parts_of C) (parts_of I) p c.after-children.ensures.parts c.properties_len-properties.ensures.no_more in
    let no_node : BeginsNoNode (parts_of D) = subst BeginsNoNode (sym c.after-behind.ensures.parts) inside.1.no_more in
    wrong_in_root P c.args.end c.not_ended.result
    (wrong_open 64 P C D (head_after no_nodes [] s) inside.0 (0 + (1 + p)) c.in-Ok.len c.args.end c.not_ended.result whole place
    c.after-behind.ensures.pieces inside_parts
    (opened no_nodes [] s)
    no_property no_node c.in_default-after_end.ensures.parts c.not_ended.ensures.reason c.not_ended.ensures.offset)

pub returns-then-not-is_empty-clause-reason : goal.returns-then-not-is_empty-clause-reason
returns-then-not-is_empty-clause-reason c =
    let P = c.args.pieces.now in
    let I = c.in-Some.inner.now in
    let C = c.after-children.result.now in
    let p = c.properties_len-properties.result in
    let properties = c.properties_len-properties.ensures.properties in
    let s = properties.0 in
    let begun_there = begun_at (parts_of P) (parts_of P) (parts_of I) (parts_of C) [] s p refl c.in-Some.ensures.parts properties.1
    c.after-children.ensures.parts in
    let whole = head_parts (parts_of P) (parts_of P) (parts_of C) no_nodes [] s refl begun_there in
    let place = inner_place P P I C 0 p refl c.in-Some.ensures.rest c.after-children.ensures.pieces in
    let D = c.after-behind.result.now in
    let inside = c.in-Ok.ensures.ok in
    let inside_parts : parts_of C ≡ parts_of_nodes inside.0 ++ parts_of D =
    inside.1.parts_are ∙ ap (λ (x : List Part). parts_of_nodes inside.0 ++ x) (sym c.after-behind.ensures.parts) in
    let L = c.in-Some-after_end.later.now in
    wrong_behind P C D L s inside.0 (0 + (1 + p)) c.in-Ok.len c.args.end _ whole place c.after-behind.ensures.pieces c.in-Some-after_end.ensures.rest
    inside_parts c.in-Some-after_end.ensures.parts (λ none. some_left L none c.if-not-is_empty.ensures) refl c.offset_of-then-not-is_empty.ensures

pub returns-in_default-clause-reason : goal.returns-in_default-clause-reason
returns-in_default-clause-reason c = record {
  before = [];
  count = 0;
  parts_are = refl;
  offset_is = c.offset_of.ensures;
  wrong = no_root refl c.in_default.ensures.parts;
}
