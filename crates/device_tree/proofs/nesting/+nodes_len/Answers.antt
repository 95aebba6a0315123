use Rattle.std.proofs.Common.{◌≡◌, ◌+◌, ◌-◌, ◌∙◌, ap, sym, subst, ℕ, suc, List, ◌∷◌, ◌++◌, drop, arith}
use Rattle.std.proofs.lemmas.List.{length-map}
use Rattle.device_tree.specs.declared.pieces.PlacedPiece.{PlacedPiece}
use Rattle.device_tree.specs.Pieces.{Part, ends, part_of, parts_of}
use Rattle.device_tree.specs.Nodes.{Nodes, AreNodesBefore, AreWithin, BeginsNoNode, parts_of_nodes}
use Rattle.device_tree.proofs.OneTree.{and_node, begun_at, behind_node, none_at, none_deeper, none_inside, none_unended, one_more}
use Rattle.device_tree.specs.Refusals.{IsNestingFault, IsWrongAt, offset_of}
use Rattle.device_tree.proofs.Shapes.{head_after, head_parts, inner_place, opened, wrong_deep, wrong_deeper, wrong_open}
use Rattle.device_tree.proofs.nesting.+nodes_len.Goals as goal

pub returns-then-levels-eq0-clause-refused : goal.returns-then-levels-eq0-clause-refused
returns-then-levels-eq0-clause-refused t c =
    let before = c.nodes.invariant.before in
    let found = c.in-Some.ensures.parts in
    let P = parts_of c.args.pieces.now in
    let none : (nodes : Nodes) (later : List Part) → AreNodesBefore 0 P nodes later → ⊥ =
    none_deeper P (drop c.nodes.at P) before.0 found.0 (parts_of c.in-Some.inner.now) before.1 (sym c.after.ensures.parts ∙ found.1) in
    subst (λ (m : ℕ). (nodes : Nodes) (later : List Part) → AreNodesBefore m P nodes later → ⊥) (omega (arith, c.if-levels-eq0.true)) none

pub returns-in-Err-clause-refused : goal.returns-in-Err-clause-refused
returns-in-Err-clause-refused t c =
    let before = c.nodes.invariant.before in
    let found = c.in-Some.ensures.parts in
    let P = parts_of c.args.pieces.now in
    let I = parts_of c.in-Some.inner.now in
    let C = parts_of c.after-children.result.now in
    let properties = c.properties_len-properties.ensures.properties in
    let begun = begun_at (parts_of c.after.result.now) (drop c.nodes.at P) I C found.0 properties.0 c.properties_len-properties.result c.after.ensures.parts
    found.1 properties.1
    c.after-children.ensures.parts in
    let no_property = none_at C I c.properties_len-properties.result c.after-children.ensures.parts c.properties_len-properties.ensures.no_more in
    let none = none_inside (c.args.levels - 1) P (drop c.nodes.at P) before.0 found.0 properties.0 C before.1 begun no_property c.in-Err.ensures.refused in
    subst (λ (m : ℕ). (nodes : Nodes) (later : List Part) → AreNodesBefore m P nodes later → ⊥) (omega (arith, c.if-levels-eq0.false)) none

pub returns-in_default-after_end-clause-refused : goal.returns-in_default-after_end-clause-refused
returns-in_default-after_end-clause-refused t c =
    let before = c.nodes.invariant.before in
    let found = c.in-Some.ensures.parts in
    let P = parts_of c.args.pieces.now in
    let I = parts_of c.in-Some.inner.now in
    let C = parts_of c.after-children.result.now in
    let properties = c.properties_len-properties.ensures.properties in
    let begun = begun_at (parts_of c.after.result.now) (drop c.nodes.at P) I C found.0 properties.0 c.properties_len-properties.result c.after.ensures.parts
    found.1 properties.1
    c.after-children.ensures.parts in
    let no_property = none_at C I c.properties_len-properties.result c.after-children.ensures.parts c.properties_len-properties.ensures.no_more in
    let inside = c.in-Ok.ensures.ok in
    let open_end : (later : List Part) → drop c.in-Ok.len C ≡ ends ∷ later → ⊥ =
    λ later e. c.in_default-after_end.ensures.parts later (c.after-behind.ensures.parts ∙ e) in
    let none = none_unended (c.args.levels - 1) P (drop c.nodes.at P) before.0 found.0 properties.0 C inside.0 (drop c.in-Ok.len C) before.1 begun
    no_property inside.1 open_end in
    subst (λ (m : ℕ). (nodes : Nodes) (later : List Part) → AreNodesBefore m P nodes later → ⊥) (omega (arith, c.if-levels-eq0.false)) none

pub returns-then-levels-eq0-clause-reason : goal.returns-then-levels-eq0-clause-reason
returns-then-levels-eq0-clause-reason t c =
    let before = c.nodes.invariant.before in
    let found = c.in-Some.ensures.parts in
    let P = c.args.pieces.now in
    let R = c.after.result.now in
    let fault = c.too_deep.result in
    let whole : parts_of P ≡ parts_of_nodes before.0 ++ parts_of R =
    before.1 ∙ ap (λ (x : List Part). parts_of_nodes before.0 ++ x) (sym c.after.ensures.parts) in
    let wrong : IsWrongAt (IsNestingFault 0) P c.args.end fault = wrong_deep P R before.0 found.0 (parts_of c.in-Some.inner.now) c.nodes.at c.args.end fault
    whole
    c.after.ensures.pieces
    found.1
    c.too_deep.ensures.reason
    (c.too_deep.ensures.offset ∙ ap (λ (x : List PlacedPiece). offset_of x c.args.end) (c.after-then-levels-eq0.ensures.pieces ∙ sym c.after.ensures.pieces)) in
    subst (λ (m : ℕ). IsWrongAt (IsNestingFault m) P c.args.end fault) (omega (arith, c.if-levels-eq0.true)) wrong

pub returns-in-Err-clause-reason : goal.returns-in-Err-clause-reason
returns-in-Err-clause-reason t c =
    let before = c.nodes.invariant.before in
    let found = c.in-Some.ensures.parts in
    let P = c.args.pieces.now in
    let R = c.after.result.now in
    let I = c.in-Some.inner.now in
    let C = c.after-children.result.now in
    let p = c.properties_len-properties.result in
    let properties = c.properties_len-properties.ensures.properties in
    let begun_there = begun_at (parts_of R) (drop c.nodes.at (parts_of P)) (parts_of I) (parts_of C) found.0 properties.0 p c.after.ensures.parts
    found.1 properties.1
    c.after-children.ensures.parts in
    let whole = head_parts (parts_of P) (drop c.nodes.at (parts_of P)) (parts_of C) before.0 found.0 properties.0 before.1 begun_there in
    let place = inner_place P R I C c.nodes.at p c.after.ensures.pieces c.in-Some.ensures.rest c.after-children.ensures.pieces in
    let wrong = wrong_deeper (c.args.levels - 1) P C (head_after before.0 found.0 properties.0) (c.nodes.at + (1 + p)) c.args.end c.in-Err.fault whole place
    (opened before.0 found.0 properties.0)
    c.in-Err.ensures.reason in
    subst (λ (m : ℕ). IsWrongAt (IsNestingFault m) P c.args.end c.in-Err.fault) (omega (arith, c.if-levels-eq0.false)) wrong

pub returns-in_default-after_end-clause-reason : goal.returns-in_default-after_end-clause-reason
returns-in_default-after_end-clause-reason t c =
    let before = c.nodes.invariant.before in
    let found = c.in-Some.ensures.parts in
    let P = c.args.pieces.now in
    let R = c.after.result.now in
    let I = c.in-Some.inner.now in
    let C = c.after-children.result.now in
    let D = c.after-behind.result.now in
    let p = c.properties_len-properties.result in
    let properties = c.properties_len-properties.ensures.properties in
    let begun_there = begun_at (parts_of R) (drop c.nodes.at (parts_of P)) (parts_of I) (parts_of C) found.0 properties.0 p c.after.ensures.parts
    found.1 properties.1
    c.after-children.ensures.parts in
    let no_property = none_at (parts_of C) (parts_of I) p c.after-children.ensures.parts c.properties_len-properties.ensures.no_more in
    let whole = head_parts (parts_of P) (drop c.nodes.at (parts_of P)) (parts_of C) before.0 found.0 properties.0 before.1 begun_there in
    let place = inner_place P R I C c.nodes.at p c.after.ensures.pieces c.in-Some.ensures.rest c.after-children.ensures.pieces in
    let inside = c.in-Ok.ensures.ok in
    let inside_parts : parts_of C ≡ parts_of_nodes inside.0 ++ parts_of D =
    inside.1.parts_are ∙ ap (λ (x : List Part). parts_of_nodes inside.0 ++ x) (sym c.after-behind.ensures.parts) in
    let no_node : BeginsNoNode (parts_of D) = subst BeginsNoNode (sym c.after-behind.ensures.parts) inside.1.no_more in
    wrong_open c.args.levels P C D (head_after before.0 found.0 properties.0) inside.0 (c.nodes.at + (1 + p)) c.in-Ok.len c.args.end c.not_ended.result
    whole place c.after-behind.ensures.pieces inside_parts
    (opened before.0 found.0 properties.0)
    no_property no_node c.in_default-after_end.ensures.parts c.not_ended.ensures.reason c.not_ended.ensures.offset

pub nodes-preserved : goal.nodes-preserved
nodes-preserved t c =
    let before = c.nodes.invariant.before in
    let found = c.in-Some.ensures.parts in
    let P = parts_of c.args.pieces.now in
    let R = parts_of c.after.result.now in
    let I = parts_of c.in-Some.inner.now in
    let C = parts_of c.after-children.result.now in
    let D = parts_of c.after-behind.result.now in
    let properties = c.properties_len-properties.ensures.properties in
    let p = c.properties_len-properties.result in
    let begun = begun_at R (drop c.nodes.at P) I C found.0 properties.0 p c.after.ensures.parts found.1 properties.1 c.after-children.ensures.parts in
    let inside = c.in-Ok.ensures.ok in
    let ended = c.in-Some-after_end.ensures.parts in
    let later = parts_of c.in-Some-after_end.field-0.now in
    let place = behind_node P R I C D later found.0 c.nodes.at p c.in-Ok.len c.after.ensures.parts found.1 c.after-children.ensures.parts
    c.after-behind.ensures.parts ended in
    let level : suc (c.args.levels - 1) ≡ c.args.levels = omega (arith, c.if-levels-eq0.false) in
    let fits : AreWithin (suc (c.args.levels - 1)) before.0 = subst (λ (m : ℕ). AreWithin m before.0) (sym level) before.2 in
    let one = one_more (c.args.levels - 1) P (drop c.nodes.at P) before.0 found.0 properties.0 C inside.0 (drop c.in-Ok.len C) later before.1 fits
    begun inside.1
    (sym c.after-behind.ensures.parts ∙ ended) in
    let all = and_node before.0 found.0 properties.0 inside.0 in
    record {
      within = omega (arith, place.1, length-map c.args.pieces.now (λ (x : PlacedPiece). part_of x.piece));
      before = (all, one.0 ∙ ap (λ x. parts_of_nodes all ++ x) place.0, subst (λ (m : ℕ). AreWithin m all) level one.1);
    }
