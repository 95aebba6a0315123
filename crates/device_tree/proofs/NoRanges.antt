-- The node at which nodes say no ranges.
use Rattle.std.proofs.Common.{◌≡◌, ℕ, List, [], ◌∷◌, ◌++◌, Option, map, codes, sym, ap, subst, refl, ◌∙◌, append_assoc}
use Rattle.device_tree.specs.declared.pieces.PlacedPiece.{PlacedPiece}
use Rattle.device_tree.specs.Pieces.{Part, Setting, begins, has, ends, parts_of}
use Rattle.device_tree.specs.Nodes.{Nodes, node, parts_of_nodes, BeginsNoNode, HasNoProperty}
use Rattle.device_tree.proofs.OneTree.{ends_begins_none}
use Rattle.device_tree.specs.declared.cells.Cells.{Cells}
use Rattle.device_tree.specs.declared.kinds.Kind.{Kind}
use Rattle.device_tree.specs.declared.kinds.Place.{Place}
use Rattle.device_tree.specs.declared.rows.RowFault.{RowFault}
use Rattle.device_tree.specs.declared.board_fault.BoardReason.TheVariants.{BadRows}
use Rattle.device_tree.specs.declared.board_fault.BoardReason.{BoardReason}
use Rattle.device_tree.specs.Windows.{Path}
use Rattle.device_tree.specs.Properties.{value_in}
use Rattle.device_tree.specs.Meaning.{Range, AreCells, IsInnerWay, inner_place, live_kind, path_or}
use Rattle.device_tree.specs.BoardRefusals.{BeginAt, IsNodeFault, IsOwnFault, SayNone, at_node, in_child, in_later, of_registers}
use Rattle.device_tree.proofs.OneNode.{Noted, front}

-- behind some pieces come others
abbrev pub Ends : List PlacedPiece → List PlacedPiece → Type 0
Ends X Y = (before : List PlacedPiece) × (X ≡ before ++ Y)

pub behind : (X Y Z a : List PlacedPiece) → X ≡ a ++ Y → Ends Y Z → Ends X Z
behind X Y Z a e more = (a ++ more.0, e ∙ ap (λ (x : List PlacedPiece). a ++ x) more.1 ∙ sym (append_assoc a more.0 Z))

-- what begins in the last of the pieces begins in the pieces
pub begin_behind : (X Y a : List PlacedPiece) (from : List Part) (offset : ℕ) → X ≡ a ++ Y → BeginAt Y from offset → BeginAt X from offset
begin_behind X Y a from offset e at = record {
  before = a ++ at.before;
  first = at.first;
  later = at.later;
  pieces_are = e ∙ ap (λ (x : List PlacedPiece). a ++ x) at.pieces_are ∙ sym (append_assoc a at.before (at.first ∷ at.later));
  parts_are = at.parts_are;
  offset_is = at.offset_is;
}

-- the pieces Y are the last of X, and what is wrong with a node in front of them is wrong with one in front of X
abbrev pub Passed : Place → Cells → Path → List PlacedPiece → List PlacedPiece → Type 0
Passed place cells way X Y = Ends X Y
    × ((nodes : Nodes) (last : List Part) → parts_of X ≡ parts_of_nodes nodes ++ last → BeginsNoNode last
    → (left : Nodes) × (parts_of Y ≡ parts_of_nodes left ++ last)
    × ((from : List Part) (reason : BoardReason) → SayNone place cells way left from reason → SayNone place cells way nodes from reason))

-- nodes in front of X say no ranges, for the reason and at the node of a fault
abbrev pub Refused : Place → Cells → Path → List PlacedPiece → BoardReason → ℕ → Type 0
Refused place cells way X reason offset = (nodes : Nodes) (last : List Part) → parts_of X ≡ parts_of_nodes nodes ++ last → BeginsNoNode last
    → (from : List Part) × SayNone place cells way nodes from reason × BeginAt X (from ++ last) offset

pub none_passed : (place : Place) (cells : Cells) (way : Path) (X : List PlacedPiece) → Passed place cells way X X
none_passed place cells way X = (([], refl), λ nodes last e none. (nodes, e, λ from reason say. say))

-- a node is passed
pub one_passed : (place : Place) (cells : Cells) (way : Path) (X Y : List PlacedPiece) → Passed place cells way X Y
    → (first : PlacedPiece) (P I : List PlacedPiece) → Y ≡ first ∷ (P ++ I)
    → (n : List ℕ) (s : List Setting) → parts_of Y ≡ begins n ∷ (map has s ++ parts_of I) → HasNoProperty (parts_of I)
    → (inner : Cells) (inside : Place) (through : Path) (B : List PlacedPiece) (before now : List Range)
    → Noted inside inner through (parts_of I) (parts_of B) before now → Ends I B
    → (L : List PlacedPiece) → ((rest : List Part) → parts_of B ≡ ends ∷ rest → parts_of L ≡ rest) → Ends B L
    → Passed place cells way X L
one_passed place cells way X Y passed first P I pieces n s begun no_property inner inside through B before now noted ended L end last_ended = (
  behind X Y L passed.0.0 passed.0.1 (behind Y I L (first ∷ P) pieces (behind I B L ended.0 ended.1 last_ended)),
  λ nodes last e none.
      let was = passed.1 nodes last e none in
      let one = front (parts_of Y) n s (parts_of I) was.0 last was.1 begun no_property none in
      let below = noted one.0 (ends ∷ (parts_of_nodes one.1 ++ last)) one.3 (ends_begins_none _) in (
        one.1,
        end _ below.0,
        λ from reason say. was.2 from reason
            (subst (λ (z : Nodes). SayNone place cells way z from reason) (sym one.2) (in_later from reason say)),
      ),
)

-- what is wrong with the first node
pub at_first : (place : Place) (cells : Cells) (way : Path) (X Y : List PlacedPiece) → Passed place cells way X Y
    → (first : PlacedPiece) (P I : List PlacedPiece) → Y ≡ first ∷ (P ++ I)
    → (n : List ℕ) (s : List Setting) (Q : List Part) → parts_of Y ≡ begins n ∷ (map has s ++ parts_of I) → Q ≡ map has s → HasNoProperty (parts_of I)
    → (reason : BoardReason) (offset : ℕ) → IsNodeFault place cells Q reason → first.offset ≡ offset
    → Refused place cells way X reason offset
at_first place cells way X Y passed first P I pieces n s Q begun are no_property reason offset fault is_offset = λ nodes last e none.
    let was = passed.1 nodes last e none in
    let one = front (parts_of Y) n s (parts_of I) was.0 last was.1 begun no_property none in
    let this : Nodes = node n s one.0 one.1 in
    let fault_too : IsNodeFault place cells (map has s) reason = subst (λ (x : List Part). IsNodeFault place cells x reason) are fault in
    let say : SayNone place cells way this (parts_of_nodes this) reason = at_node reason fault_too in (
      parts_of_nodes this,
      was.2 (parts_of_nodes this) reason (subst (λ (z : Nodes). SayNone place cells way z (parts_of_nodes this) reason) (sym one.2) say),
      record {
        before = passed.0.0;
        first = first;
        later = P ++ I;
        pieces_are = passed.0.1 ∙ ap (λ (x : List PlacedPiece). passed.0.0 ++ x) pieces;
        parts_are = ap parts_of (sym pieces) ∙ was.1 ∙ ap (λ (z : Nodes). parts_of_nodes z ++ last) one.2;
        offset_is = is_offset;
      },
    )

-- what is wrong with one of its children
pub at_child : (place : Place) (cells : Cells) (way : Path) (X Y : List PlacedPiece) → Passed place cells way X Y
    → (first : PlacedPiece) (P I : List PlacedPiece) → Y ≡ first ∷ (P ++ I)
    → (n : List ℕ) (s : List Setting) (Q : List Part) → parts_of Y ≡ begins n ∷ (map has s ++ parts_of I) → Q ≡ map has s → HasNoProperty (parts_of I)
    → (inner : Cells) (found : Option Path) (inside : Place) (through : Path) → AreCells Q inner
    → IsInnerWay (value_in (codes "ranges") Q) inner cells.address way found
    → inside ≡ inner_place place n Q found → through ≡ path_or found
    → (reason : BoardReason) (offset : ℕ) → Refused inside inner through I reason offset → Refused place cells way X reason offset
at_child place cells way X Y passed first P I pieces n s Q begun are no_property inner found inside through cells_are way_is place_is through_is
    reason offset below = λ nodes last e none.
    let was = passed.1 nodes last e none in
    let one = front (parts_of Y) n s (parts_of I) was.0 last was.1 begun no_property none in
    let got = below one.0 (ends ∷ (parts_of_nodes one.1 ++ last)) one.3 (ends_begins_none _) in
    let from : List Part = got.0 ++ (ends ∷ parts_of_nodes one.1) in
    let cells_too : AreCells (map has s) inner = subst (λ (x : List Part). AreCells x inner) are cells_are in
    let way_too : IsInnerWay (value_in (codes "ranges") (map has s)) inner cells.address way found =
    subst (λ (x : List Part). IsInnerWay (value_in (codes "ranges") x) inner cells.address way found) are way_is in
    let place_too : inside ≡ inner_place place n (map has s) found = place_is ∙ ap (λ (x : List Part). inner_place place n x found) are in
    let at_place : SayNone (inner_place place n (map has s) found) inner through one.0 got.0 reason =
    subst (λ (x : Place). SayNone x inner through one.0 got.0 reason) place_too got.1 in
    let on_way : SayNone (inner_place place n (map has s) found) inner (path_or found) one.0 got.0 reason =
    subst (λ (x : Path). SayNone (inner_place place n (map has s) found) inner x one.0 got.0 reason) through_is at_place in
    let say : SayNone place cells way (node n s one.0 one.1) from reason = in_child got.0 reason inner found cells_too way_too on_way in
    let inner_at : BeginAt I (from ++ last) offset =
    subst (λ (x : List Part). BeginAt I x offset) (sym (append_assoc got.0 (ends ∷ parts_of_nodes one.1) last)) got.2 in (
      from,
      was.2 from reason (subst (λ (z : Nodes). SayNone place cells way z from reason) (sym one.2) say),
      begin_behind X Y passed.0.0 (from ++ last) offset passed.0.1 (begin_behind Y I (first ∷ P) (from ++ last) offset pieces inner_at),
    )

-- what is wrong with the registers of a node
pub of_own : (place : Place) (cells : Cells) (P : List Part) (kind : Option Kind) (reg : Option (List ℕ)) (fault : RowFault)
    → kind ≡ live_kind place P → reg ≡ value_in (codes "reg") P → IsOwnFault kind reg cells fault → IsNodeFault place cells P (BadRows fault)
of_own place cells P kind reg fault kind_is reg_is wrong = of_registers fault
    (subst (λ (x : Option Kind). IsOwnFault x (value_in (codes "reg") P) cells fault) kind_is
    (subst (λ (x : Option (List ℕ)). IsOwnFault kind x cells fault) reg_is wrong))
