-- The first of the parts that is wrong where they are no tree.
use Rattle.std.proofs.Common.{◌≡◌, ◌≢◌, ℕ, suc, ◌+◌, List, [], ◌∷◌, ◌++◌, append_assoc, map, drop, sym, ap, subst, refl, ◌∙◌, arith}
use Rattle.std.proofs.lemmas.List.{drop-drop}
use Rattle.device_tree.specs.declared.fault.TreeFault.{TreeFault}
use Rattle.device_tree.specs.declared.fault.TreeReason.{TreeReason}
use Rattle.device_tree.specs.declared.fault.TreeReason.TheVariants.{TooDeep, PieceBehindRoot}
use Rattle.device_tree.specs.declared.pieces.PlacedPiece.{PlacedPiece}
use Rattle.device_tree.specs.Pieces.{Part, Setting, begins, has, ends, parts_of}
use Rattle.device_tree.specs.Nodes.{Nodes, no_nodes, node, parts_of_nodes, BeginsNoNode, HasNoProperty, Tree, parts_of_tree}
use Rattle.device_tree.specs.Refusals.{begun, ended, IsNestingFault, deep, late, unended, IsShapeFault, in_root, behind_root, IsWrongAt, offset_of, open_reason}

begun_append : (a b : List Part) → begun (a ++ b) ≡ begun a + begun b
begun_append [] b = omega arith
begun_append (begins n ∷ a) b = omega (arith, begun_append a b)
begun_append (has s ∷ a) b = begun_append a b
begun_append (ends ∷ a) b = begun_append a b

ended_append : (a b : List Part) → ended (a ++ b) ≡ ended a + ended b
ended_append [] b = omega arith
ended_append (begins n ∷ a) b = ended_append a b
ended_append (has s ∷ a) b = ended_append a b
ended_append (ends ∷ a) b = omega (arith, ended_append a b)

no_begun : (s : List Setting) → begun (map has s) ≡ 0
no_begun [] = refl
no_begun (x ∷ s) = no_begun s

no_ended : (s : List Setting) → ended (map has s) ≡ 0
no_ended [] = refl
no_ended (x ∷ s) = no_ended s

-- each of these nodes ends
balanced : (x : Nodes) → begun (parts_of_nodes x) ≡ ended (parts_of_nodes x)
balanced no_nodes = refl
balanced (node n s c l) = omega (
  arith,
  begun_append (map has s) (parts_of_nodes c ++ (ends ∷ parts_of_nodes l)),
  begun_append (parts_of_nodes c) (ends ∷ parts_of_nodes l),
  ended_append (map has s) (parts_of_nodes c ++ (ends ∷ parts_of_nodes l)),
  ended_append (parts_of_nodes c) (ends ∷ parts_of_nodes l),
  no_begun s,
  no_ended s,
  balanced c,
  balanced l,
)

-- behind some nodes one begins
pub head_after : Nodes → List ℕ → List Setting → List Part
head_after x n s = parts_of_nodes x ++ (begins n ∷ map has s)

pub opened : (x : Nodes) (n : List ℕ) (s : List Setting) → begun (head_after x n s) ≡ ended (head_after x n s) + 1
unfolding head_after
opened x n s = omega (
  arith,
  begun_append (parts_of_nodes x) (begins n ∷ map has s),
  ended_append (parts_of_nodes x) (begins n ∷ map has s),
  no_begun s,
  no_ended s,
  balanced x,
)

pub head_parts : (P R C : List Part) (x : Nodes) (n : List ℕ) (s : List Setting) → P ≡ parts_of_nodes x ++ R → R ≡ begins n ∷ (map has s ++ C)
    → P ≡ head_after x n s ++ C
unfolding head_after
head_parts P R C x n s e begun_there = e ∙ ap (λ (y : List Part). parts_of_nodes x ++ y) begun_there
    ∙ sym (append_assoc (parts_of_nodes x) (begins n ∷ map has s) C)

-- where the pieces behind the head of a node are
pub inner_place : {X : Type 0} (P R I C : List X) (at p : ℕ) → R ≡ drop at P → I ≡ drop 1 R → C ≡ drop p I → C ≡ drop (at + (1 + p)) P
inner_place P R I C at p is_rest is_inner is_children = is_children ∙ ap (drop p) (is_inner ∙ ap (drop 1) is_rest)
    ∙ drop-drop p 1 (drop at P) ∙ drop-drop (1 + p) at P

pub behind_place : {X : Type 0} (P C D : List X) (place len : ℕ) → C ≡ drop place P → D ≡ drop len C → D ≡ drop (place + len) P
behind_place P C D place len is_children is_behind = is_behind ∙ ap (drop len) is_children ∙ drop-drop len place P

deeper : (levels : ℕ) (X before left : List Part) (reason : TreeReason) → begun X ≡ ended X + 1 → IsNestingFault levels before left reason
    → IsNestingFault (suc levels) (X ++ before) left reason
deeper levels X before left reason one (deep name later is_left count) =
    deep name later is_left (omega (arith, begun_append X before, ended_append X before, one, count))
deeper levels X before left reason one (late earlier property later is_before is_left less) =
    late (X ++ earlier) property later (ap (λ (y : List Part). X ++ y) is_before ∙ sym (append_assoc X earlier (ends ∷ []))) is_left
    (omega (arith, begun_append X before, ended_append X before, one, less))
deeper levels X before left reason one (unended none less) =
    unended none (omega (arith, begun_append X before, ended_append X before, one, less))

-- what is wrong with the children of a node
pub wrong_deeper : (levels : ℕ) (P C : List PlacedPiece) (X : List Part) (place end : ℕ) (fault : TreeFault) → parts_of P ≡ X ++ parts_of C
    → C ≡ drop place P → begun X ≡ ended X + 1 → IsWrongAt (IsNestingFault levels) C end fault → IsWrongAt (IsNestingFault (suc levels)) P end fault
wrong_deeper levels P C X place end fault e is_children one w =
    let left : drop w.count C ≡ drop (place + w.count) P = ap (drop w.count) is_children ∙ drop-drop w.count place P in
    record {
      before = X ++ w.before;
      count = place + w.count;
      parts_are = e ∙ ap (λ (y : List Part). X ++ y) (w.parts_are ∙ ap (λ (y : List PlacedPiece). w.before ++ parts_of y) left)
          ∙ sym (append_assoc X w.before (parts_of (drop (place + w.count) P)));
      offset_is = w.offset_is ∙ ap (λ (y : List PlacedPiece). offset_of y end) left;
      wrong = subst (λ (y : List PlacedPiece). IsNestingFault (suc levels) (X ++ w.before) (parts_of y) fault.reason) left
          (deeper levels X w.before (parts_of (drop w.count C)) fault.reason one w.wrong);
    }

-- the last part of a node is its end
last_end : (n : List ℕ) (s : List Setting) (c l : Nodes) → (earlier : List Part) × (parts_of_nodes (node n s c l) ≡ earlier ++ ends ∷ [])
last_end n s c no_nodes = (
  begins n ∷ (map has s ++ parts_of_nodes c),
  ap (λ (y : List Part). begins n ∷ y) (sym (append_assoc (map has s) (parts_of_nodes c) (ends ∷ []))),
)
last_end n s c (node m t d k) =
    let more = last_end m t d k in
    let inside : parts_of_nodes c ++ (ends ∷ parts_of_nodes (node m t d k)) ≡ (parts_of_nodes c ++ (ends ∷ more.0)) ++ ends ∷ [] =
    ap (λ (y : List Part). parts_of_nodes c ++ (ends ∷ y)) more.1 ∙ sym (append_assoc (parts_of_nodes c) (ends ∷ more.0) (ends ∷ [])) in (
      begins n ∷ (map has s ++ (parts_of_nodes c ++ (ends ∷ more.0))),
      ap (λ (y : List Part). begins n ∷ y) (ap (λ (y : List Part). map has s ++ y) inside
          ∙ sym (append_assoc (map has s) (parts_of_nodes c ++ (ends ∷ more.0)) (ends ∷ []))),
    )

stays_open : (levels : ℕ) (X : List Part) (c : Nodes) (left : List Part) → begun X ≡ ended X + 1 → HasNoProperty (parts_of_nodes c ++ left)
    → BeginsNoNode left → ((later : List Part) → left ≡ ends ∷ later → ⊥) → IsNestingFault levels (X ++ parts_of_nodes c) left (open_reason left)
stays_open levels X c [] one no_property no_node no_end =
    unended refl (omega (arith, begun_append X (parts_of_nodes c), ended_append X (parts_of_nodes c), balanced c, one))
stays_open levels X c (begins n ∷ later) one no_property no_node no_end = absurd (no_node n later refl)
stays_open levels X c (ends ∷ later) one no_property no_node no_end = absurd (no_end later refl)
stays_open levels X no_nodes (has p ∷ later) one no_property no_node no_end = absurd (no_property p later refl)
stays_open levels X (node n s c l) (has p ∷ later) one no_property no_node no_end =
    let last = last_end n s c l in
    let all = parts_of_nodes (node n s c l) in
    late (X ++ last.0) p later (ap (λ (y : List Part). X ++ y) last.1 ∙ sym (append_assoc X last.0 (ends ∷ []))) refl
    (omega (arith, begun_append X all, ended_append X all, balanced (node n s c l), one))

-- a node does not end behind its children
pub wrong_open : (levels : ℕ) (P C D : List PlacedPiece) (X : List Part) (c : Nodes) (place len end : ℕ) (fault : TreeFault) → parts_of P ≡ X ++ parts_of C
    → C ≡ drop place P → D ≡ drop len C → parts_of C ≡ parts_of_nodes c ++ parts_of D → begun X ≡ ended X + 1
    → HasNoProperty (parts_of C) → BeginsNoNode (parts_of D) → ((later : List Part) → parts_of D ≡ ends ∷ later → ⊥)
    → fault.reason ≡ open_reason (parts_of D) → fault.offset ≡ offset_of D end → IsWrongAt (IsNestingFault levels) P end fault
wrong_open levels P C D X c place len end fault e is_children is_behind inside one no_property no_node no_end reason offset =
    let here : D ≡ drop (place + len) P = behind_place P C D place len is_children is_behind in
    let wrong : IsNestingFault levels (X ++ parts_of_nodes c) (parts_of D) (open_reason (parts_of D)) =
    stays_open levels X c (parts_of D) one (subst HasNoProperty inside no_property) no_node no_end in
    record {
      before = X ++ parts_of_nodes c;
      count = place + len;
      parts_are = e ∙ ap (λ (y : List Part). X ++ y) inside ∙ sym (append_assoc X (parts_of_nodes c) (parts_of D))
          ∙ ap (λ (y : List PlacedPiece). (X ++ parts_of_nodes c) ++ parts_of y) here;
      offset_is = offset ∙ ap (λ (y : List PlacedPiece). offset_of y end) here;
      wrong = subst (λ (y : List PlacedPiece). IsNestingFault levels (X ++ parts_of_nodes c) (parts_of y) fault.reason) here
          (subst (λ (y : TreeReason). IsNestingFault levels (X ++ parts_of_nodes c) (parts_of D) y) (sym reason) wrong);
    }

-- a node begins where no level is left
pub wrong_deep : (P R : List PlacedPiece) (x : Nodes) (n : List ℕ) (I : List Part) (at end : ℕ) (fault : TreeFault)
    → parts_of P ≡ parts_of_nodes x ++ parts_of R → R ≡ drop at P → parts_of R ≡ begins n ∷ I
    → fault.reason ≡ TooDeep → fault.offset ≡ offset_of R end → IsWrongAt (IsNestingFault 0) P end fault
wrong_deep P R x n I at end fault e here begun_there reason offset = record {
  before = parts_of_nodes x;
  count = at;
  parts_are = e ∙ ap (λ (y : List PlacedPiece). parts_of_nodes x ++ parts_of y) here;
  offset_is = offset ∙ ap (λ (y : List PlacedPiece). offset_of y end) here;
  wrong = subst (λ (y : List PlacedPiece). IsNestingFault 0 (parts_of_nodes x) (parts_of y) fault.reason) here
      (subst (λ (y : TreeReason). IsNestingFault 0 (parts_of_nodes x) (parts_of R) y) (sym reason)
      (deep n I begun_there (omega (arith, balanced x))));
}

-- what is wrong below the root
pub wrong_in_root : (P : List PlacedPiece) (end : ℕ) (fault : TreeFault) → IsWrongAt (IsNestingFault 64) P end fault → IsWrongAt IsShapeFault P end fault
wrong_in_root P end fault w = record {
  before = w.before;
  count = w.count;
  parts_are = w.parts_are;
  offset_is = w.offset_is;
  wrong = in_root fault.reason w.wrong;
}

some_there : {A : Type 0} (left : List A) → (left ≡ [] → ⊥) → left ≢ []
some_there left none = none

-- something is behind the root
pub wrong_behind : (P C D L : List PlacedPiece) (s : List Setting) (c : Nodes) (place len end : ℕ) (fault : TreeFault)
    → parts_of P ≡ head_after no_nodes [] s ++ parts_of C → C ≡ drop place P → D ≡ drop len C → L ≡ drop 1 D
    → parts_of C ≡ parts_of_nodes c ++ parts_of D → parts_of D ≡ ends ∷ parts_of L → (parts_of L ≡ [] → ⊥)
    → fault.reason ≡ PieceBehindRoot → fault.offset ≡ offset_of L end → IsWrongAt IsShapeFault P end fault
unfolding head_after
wrong_behind P C D L s c place len end fault e is_children is_behind is_later inside ended_there some reason offset =
    let tree : Tree = record { properties = s; children = c } in
    let here : L ≡ drop (place + len + 1) P = behind_place P D L (place + len) 1 (behind_place P C D place len is_children is_behind) is_later in
    let children : parts_of C ≡ (parts_of_nodes c ++ (ends ∷ [])) ++ parts_of L =
    inside ∙ ap (λ (y : List Part). parts_of_nodes c ++ y) ended_there ∙ sym (append_assoc (parts_of_nodes c) (ends ∷ []) (parts_of L)) in
    let whole : parts_of P ≡ parts_of_tree tree ++ parts_of L = e ∙ ap (λ (y : List Part). begins [] ∷ (map has s ++ y)) children
    ∙ ap (λ (y : List Part). begins [] ∷ y) (sym (append_assoc (map has s) (parts_of_nodes c ++ (ends ∷ [])) (parts_of L))) in
    record {
      before = parts_of_tree tree;
      count = place + len + 1;
      parts_are = whole ∙ ap (λ (y : List PlacedPiece). parts_of_tree tree ++ parts_of y) here;
      offset_is = offset ∙ ap (λ (y : List PlacedPiece). offset_of y end) here;
      wrong = subst (λ (y : List PlacedPiece). IsShapeFault (parts_of_tree tree) (parts_of y) fault.reason) here
          (subst (λ (y : TreeReason). IsShapeFault (parts_of_tree tree) (parts_of L) y) (sym reason) (behind_root tree refl some));
    }
