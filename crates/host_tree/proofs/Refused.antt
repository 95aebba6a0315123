-- The node for which nodes are not written.
use Rattle.std.proofs.Common.{◌≡◌, ℕ, List, [], ◌∷◌, ◌++◌, Option, map, codes, sym, ap, subst, ◌∙◌, inr}
use Rattle.device_tree.specs.Pieces.{Part, Setting, begins, has, ends}
use Rattle.device_tree.specs.Nodes.{Nodes, node, parts_of_nodes, BeginsNoNode, HasNoProperty}
use Rattle.device_tree.proofs.OneTree.{ends_begins_none}
use Rattle.device_tree.specs.declared.cells.Cells.{Cells}
use Rattle.device_tree.specs.declared.kinds.Place.{Place}
use Rattle.device_tree.specs.Windows.{Path}
use Rattle.device_tree.specs.Properties.{value_in}
use Rattle.device_tree.specs.Meaning.{AreCells, IsInnerWay, inner_place, path_or}
use Rattle.device_tree.specs.BoardRefusals.{IsNodeFault, SayNone, at_node, in_child, in_later}
use Rattle.device_tree.proofs.OneNode.{front}
use Rattle.host_tree.specs.declared.fault.MakeFault.{MakeFault}
use Rattle.host_tree.specs.declared.fault.MakeFault.TheVariants.{NotUnderstood, BadCells, NotWritten}
use Rattle.host_tree.specs.declared.reserved.Reserved.{Reserved}
use Rattle.host_tree.specs.Refusals.{AreRefused, HasZeroName, IsHeadFault, IsPutFault, IsRangeFault}
use Rattle.host_tree.proofs.WriteFaults.{write_in, zero_first, zero_last}

-- nodes in front of P are not written for that fault
abbrev pub Refused : Place → Cells → Path → List Reserved → List Part → MakeFault → Type 0
Refused place cells way ranges P fault = (nodes : Nodes) (behind : List Part) → P ≡ parts_of_nodes nodes ++ behind → BeginsNoNode behind
    → AreRefused place cells way ranges nodes fault

-- of the nodes in front of P those before R are passed: what is wrong with one of the others is wrong with all
abbrev pub Passed : Place → Cells → Path → List Reserved → List Part → List Part → Type 0
Passed place cells way ranges P R = (nodes : Nodes) (behind : List Part) → P ≡ parts_of_nodes nodes ++ behind → BeginsNoNode behind
    → (left : Nodes) × (R ≡ parts_of_nodes left ++ behind)
    × ((fault : MakeFault) → AreRefused place cells way ranges left fault → AreRefused place cells way ranges nodes fault)

pub none_passed : (place : Place) (cells : Cells) (way : Path) (ranges : List Reserved) (P : List Part) → Passed place cells way ranges P P
none_passed place cells way ranges P = λ nodes behind e none. (nodes, e, λ fault h. h)

zero_later : (n : List ℕ) (s : List Setting) (c l : Nodes) → HasZeroName (parts_of_nodes l) → HasZeroName (parts_of_nodes (node n s c l))
zero_later n s c l h = inr (zero_last (map has s) (parts_of_nodes c ++ (ends ∷ parts_of_nodes l))
    (zero_last (parts_of_nodes c) (ends ∷ parts_of_nodes l) h))

zero_child : (n : List ℕ) (s : List Setting) (c l : Nodes) → HasZeroName (parts_of_nodes c) → HasZeroName (parts_of_nodes (node n s c l))
zero_child n s c l h = inr (zero_last (map has s) (parts_of_nodes c ++ (ends ∷ parts_of_nodes l))
    (zero_first (parts_of_nodes c) (ends ∷ parts_of_nodes l) h))

-- what is wrong with those behind a node
pub later_refused : (place : Place) (cells : Cells) (way : Path) (ranges : List Reserved) (n : List ℕ) (s : List Setting) (c l : Nodes) (fault : MakeFault)
    → AreRefused place cells way ranges l fault → AreRefused place cells way ranges (node n s c l) fault
later_refused place cells way ranges n s c l (NotUnderstood reason) h = (h.0, in_later h.0 reason h.1)
later_refused place cells way ranges n s c l BadCells h = h
later_refused place cells way ranges n s c l (NotWritten fault) h = write_in (parts_of_nodes l) (parts_of_nodes (node n s c l)) [] [] (zero_later n s c l)
    (λ e. e) fault h

-- with its beginning
pub head_refused : (place : Place) (cells : Cells) (way : Path) (n : List ℕ) (s : List Setting) (c l : Nodes) (Q : List Part) → Q ≡ map has s
    → (fault : MakeFault) → IsHeadFault place cells Q (begins n ∷ Q) fault → AreRefused place cells way [] (node n s c l) fault
head_refused place cells way n s c l Q are (NotUnderstood reason) h = (
  parts_of_nodes (node n s c l),
  at_node reason (subst (λ (x : List Part). IsNodeFault place cells x reason) are h),
)
head_refused place cells way n s c l Q are BadCells h = h
head_refused place cells way n s c l Q are (NotWritten fault) h =
    let rest : List Part = parts_of_nodes c ++ (ends ∷ parts_of_nodes l) in
    write_in (begins n ∷ Q) (parts_of_nodes (node n s c l)) [] []
    (λ zero. zero_first (begins n ∷ map has s) rest (subst (λ (x : List Part). HasZeroName (begins n ∷ x)) are zero)) (λ e. e) fault h

-- with one of its children
pub child_refused : (place : Place) (cells : Cells) (way : Path) (n : List ℕ) (s : List Setting) (c l : Nodes) (Q : List Part) → Q ≡ map has s
    → (inner : Cells) (found : Option Path) (inside : Place) (through : Path) → AreCells Q inner
    → IsInnerWay (value_in (codes "ranges") Q) inner cells.address way found
    → inside ≡ inner_place place n Q found → through ≡ path_or found
    → (fault : MakeFault) → AreRefused inside inner through [] c fault → AreRefused place cells way [] (node n s c l) fault
child_refused place cells way n s c l Q are inner found inside through cells_are way_is place_is through_is (NotUnderstood reason) h =
    let cells_too : AreCells (map has s) inner = subst (λ (x : List Part). AreCells x inner) are cells_are in
    let way_too : IsInnerWay (value_in (codes "ranges") (map has s)) inner cells.address way found =
    subst (λ (x : List Part). IsInnerWay (value_in (codes "ranges") x) inner cells.address way found) are way_is in
    let place_too : inside ≡ inner_place place n (map has s) found = place_is ∙ ap (λ (x : List Part). inner_place place n x found) are in
    let at_place : SayNone (inner_place place n (map has s) found) inner through c h.0 reason =
    subst (λ (x : Place). SayNone x inner through c h.0 reason) place_too h.1 in
    let on_way : SayNone (inner_place place n (map has s) found) inner (path_or found) c h.0 reason =
    subst (λ (x : Path). SayNone (inner_place place n (map has s) found) inner x c h.0 reason) through_is at_place in
    (h.0 ++ (ends ∷ parts_of_nodes l), in_child h.0 reason inner found cells_too way_too on_way)
child_refused place cells way n s c l Q are inner found inside through cells_are way_is place_is through_is BadCells h = h
child_refused place cells way n s c l Q are inner found inside through cells_are way_is place_is through_is (NotWritten fault) h =
    write_in (parts_of_nodes c) (parts_of_nodes (node n s c l)) [] [] (zero_child n s c l) (λ e. e) fault h

-- with a part of no name
pub put_refused : (place : Place) (cells : Cells) (way : Path) (ranges : List Reserved) (nodes : Nodes) (fault : MakeFault) → IsPutFault [] fault
    → AreRefused place cells way ranges nodes fault
put_refused place cells way ranges nodes (NotUnderstood reason) h = absurd h
put_refused place cells way ranges nodes BadCells h = absurd h
put_refused place cells way ranges nodes (NotWritten fault) h = write_in [] (parts_of_nodes nodes) [] [] (λ none. absurd none) (λ e. e) fault h

-- with ranges
pub range_refused : (place : Place) (cells : Cells) (way : Path) (ranges : List Reserved) (nodes : Nodes) (fault : MakeFault)
    → IsRangeFault cells ranges fault → AreRefused place cells way ranges nodes fault
range_refused place cells way ranges nodes (NotUnderstood reason) h = absurd h
range_refused place cells way ranges nodes BadCells h = h
range_refused place cells way ranges nodes (NotWritten fault) h = write_in [] (parts_of_nodes nodes) [] [] (λ none. absurd none) (λ e. e) fault h

-- what is wrong without ranges is wrong with them
pub ranged : (place : Place) (cells : Cells) (way : Path) (ranges : List Reserved) (nodes : Nodes) (fault : MakeFault)
    → AreRefused place cells way [] nodes fault → AreRefused place cells way ranges nodes fault
ranged place cells way ranges nodes (NotUnderstood reason) h = h
ranged place cells way ranges nodes BadCells h = absurd h
ranged place cells way ranges nodes (NotWritten fault) h = h

-- a node is passed
pub one_passed : (place : Place) (cells : Cells) (way : Path) (ranges : List Reserved) (P R : List Part) → Passed place cells way ranges P R
    → (n : List ℕ) (s : List Setting) (I : List Part) → R ≡ begins n ∷ (map has s ++ I) → HasNoProperty I
    → (B : List Part) → ((c : Nodes) (rest : List Part) → I ≡ parts_of_nodes c ++ rest → BeginsNoNode rest → B ≡ rest)
    → (L : List Part) → ((rest : List Part) → B ≡ ends ∷ rest → L ≡ rest) → Passed place cells way ranges P L
one_passed place cells way ranges P R passed n s I begun no_property B below L end = λ nodes behind e none.
    let was = passed nodes behind e none in
    let one = front R n s I was.0 behind was.1 begun no_property none in (
      one.1,
      end _ (below one.0 (ends ∷ (parts_of_nodes one.1 ++ behind)) one.3 (ends_begins_none _)),
      λ fault h. was.2 fault
          (subst (λ (z : Nodes). AreRefused place cells way ranges z fault) (sym one.2) (later_refused place cells way ranges n s one.0 one.1 fault h)),
    )

-- what is wrong with the node in front
pub at_front : (place : Place) (cells : Cells) (way : Path) (ranges : List Reserved) (P R : List Part) → Passed place cells way ranges P R
    → (n : List ℕ) (s : List Setting) (I : List Part) → R ≡ begins n ∷ (map has s ++ I) → HasNoProperty I
    → (fault : MakeFault)
    → ((c l : Nodes) (behind : List Part) → I ≡ parts_of_nodes c ++ (ends ∷ (parts_of_nodes l ++ behind)) → BeginsNoNode behind
    → AreRefused place cells way ranges (node n s c l) fault)
    → Refused place cells way ranges P fault
at_front place cells way ranges P R passed n s I begun no_property fault here = λ nodes behind e none.
    let was = passed nodes behind e none in
    let one = front R n s I was.0 behind was.1 begun no_property none in
    was.2 fault (subst (λ (z : Nodes). AreRefused place cells way ranges z fault) (sym one.2) (here one.0 one.1 behind one.3 none))
