-- A node in front of nodes, and what it says.
use Rattle.std.proofs.Common.{◌≡◌, ℕ, List, [], ◌∷◌, ◌++◌, Option, map, codes, sym, ap, subst, refl, ◌∙◌, append_assoc, append-nil}
use Rattle.device_tree.specs.Pieces.{Part, Setting, begins, has, ends}
use Rattle.device_tree.specs.Nodes.{Nodes, no_nodes, node, Tree, parts_of_nodes, parts_of_tree, BeginsNoNode, HasNoProperty}
use Rattle.device_tree.proofs.OneTree.{ends_begins_none, nodes_have_none, same_properties, node_before}
use Rattle.device_tree.specs.declared.cells.Cells.{Cells}
use Rattle.device_tree.specs.declared.kinds.Place.{Place}
use Rattle.device_tree.specs.Windows.{Path}
use Rattle.device_tree.specs.Properties.{value_in}
use Rattle.device_tree.specs.Meaning.{Range, Say, a_node, nothing, AreCells, AreOwn, IsInnerWay, inner_place, live_kind, path_or}

-- nodes that begin with a name and properties are one node and others
pub front : (R : List Part) (n : List ℕ) (s : List Setting) (I : List Part) (z : Nodes) (behind : List Part)
    → R ≡ parts_of_nodes z ++ behind → R ≡ begins n ∷ (map has s ++ I) → HasNoProperty I → BeginsNoNode behind
    → (c : Nodes) × (l : Nodes) × (z ≡ node n s c l) × (I ≡ parts_of_nodes c ++ (ends ∷ (parts_of_nodes l ++ behind)))
front R n s I no_nodes behind e begun none no_more = absurd (no_more n _ (sym e ∙ begun))
front R n s I (node m t d k) behind e begun none no_more =
    let whole : begins n ∷ (map has s ++ I) ≡ begins m ∷ (map has t ++ (parts_of_nodes d ++ (ends ∷ (parts_of_nodes k ++ behind)))) =
    sym begun ∙ e ∙ node_before m t d k behind in
    let name : n ≡ m = cc (whole) in
    let later : map has s ++ I ≡ map has t ++ (parts_of_nodes d ++ (ends ∷ (parts_of_nodes k ++ behind))) = cc (whole) in
    let properties = same_properties s t I _ later none (nodes_have_none d _) in
    (d, k, cc (name, properties.0), properties.1)

-- no nodes are in front of what begins none
pub no_front : (z : Nodes) (R behind : List Part) → R ≡ parts_of_nodes z ++ behind → BeginsNoNode R → z ≡ no_nodes
no_front no_nodes R behind e none = refl
no_front (node n s c l) R behind e none = absurd (none n _ e)

-- what one node says, and those behind it
pub one_node : (place : Place) (cells : Cells) (way : Path) (n : List ℕ) (s : List Setting) (c l z : Nodes) (P : List Part)
    (own below more : List Range) (inner : Cells) (found : Option Path) (inside : Place) (through : Path)
    → z ≡ node n s c l → P ≡ map has s
    → AreOwn (live_kind place P) (value_in (codes "reg") P) cells way n own
    → AreCells P inner
    → IsInnerWay (value_in (codes "ranges") P) inner cells.address way found
    → inside ≡ inner_place place n P found → through ≡ path_or found
    → Say inside inner through c below → Say place cells way l more
    → Say place cells way z (own ++ (below ++ more))
one_node place cells way n s c l z P own below more inner found inside through is_node are own_is cells_are way_is place_is through_is children later =
    let Q : List Part = map has s in
    let own_too : AreOwn (live_kind place (map has s)) (value_in (codes "reg") (map has s)) cells way n own =
    subst (λ (x : List Part). AreOwn (live_kind place x) (value_in (codes "reg") x) cells way n own) are own_is in
    let cells_too : AreCells (map has s) inner = subst (λ (x : List Part). AreCells x inner) are cells_are in
    let way_too : IsInnerWay (value_in (codes "ranges") (map has s)) inner cells.address way found =
    subst (λ (x : List Part). IsInnerWay (value_in (codes "ranges") x) inner cells.address way found) are way_is in
    let place_too : inside ≡ inner_place place n (map has s) found = place_is ∙ ap (λ (x : List Part). inner_place place n x found) are in
    let at_place : Say (inner_place place n (map has s) found) inner through c below = subst (λ (x : Place). Say x inner through c below) place_too children in
    let below_too : Say (inner_place place n (map has s) found) inner (path_or found) c below =
    subst (λ (x : Path). Say (inner_place place n (map has s) found) inner x c below) through_is at_place in
    subst (λ (x : Nodes). Say place cells way x (own ++ (below ++ more))) (sym is_node)
    (a_node own below more inner found own_too cells_too way_too below_too later)

-- of the nodes in front of P those before R are noted: to the ranges before, theirs are added
abbrev pub Reached : Place → Cells → Path → List Part → List Part → List Range → List Range → Type 0
Reached place cells way P R before now = (nodes : Nodes) (behind : List Part) → P ≡ parts_of_nodes nodes ++ behind → BeginsNoNode behind
    → (left : Nodes) × (R ≡ parts_of_nodes left ++ behind)
    × (ranges : List Range) × (now ≡ before ++ ranges)
    × ((more : List Range) → Say place cells way left more → Say place cells way nodes (ranges ++ more))

-- and the nodes in front of P say what was added, and B is behind them
abbrev pub Noted : Place → Cells → Path → List Part → List Part → List Range → List Range → Type 0
Noted place cells way P B before now = (nodes : Nodes) (behind : List Part) → P ≡ parts_of_nodes nodes ++ behind → BeginsNoNode behind
    → (B ≡ behind) × (ranges : List Range) × Say place cells way nodes ranges × (now ≡ before ++ ranges)

pub start : (place : Place) (cells : Cells) (way : Path) (P : List Part) (before : List Range) → Reached place cells way P P before before
start place cells way P before = λ nodes behind e none. (nodes, e, [], sym (append-nil before), λ more say. say)

pub next : (place : Place) (cells : Cells) (way : Path) (P R : List Part) (before now : List Range) → Reached place cells way P R before now
    → (n : List ℕ) (s : List Setting) (I Q : List Part) → R ≡ begins n ∷ (map has s ++ I) → Q ≡ map has s → HasNoProperty I
    → (own mid : List Range) → AreOwn (live_kind place Q) (value_in (codes "reg") Q) cells way n own → mid ≡ now ++ own
    → (inner : Cells) (found : Option Path) (inside : Place) (through : Path) → AreCells Q inner
    → IsInnerWay (value_in (codes "ranges") Q) inner cells.address way found
    → inside ≡ inner_place place n Q found → through ≡ path_or found
    → (B : List Part) (later : List Range) → Noted inside inner through I B mid later
    → (L : List Part) → ((rest : List Part) → B ≡ ends ∷ rest → L ≡ rest)
    → Reached place cells way P L before later
next place cells way P R before now reached n s I Q begun is_properties no_property own mid own_is mid_is inner found inside through cells_are way_is
    place_is through_is B later noted L end = λ nodes behind e none.
    let was = reached nodes behind e none in
    let one = front R n s I was.0 behind was.1 begun no_property none in
    let below = noted one.0 (ends ∷ (parts_of_nodes one.1 ++ behind)) one.3 (ends_begins_none _) in (
      one.1,
      end _ below.0,
      was.2 ++ (own ++ below.1),
      below.3 ∙ ap (λ (x : List Range). x ++ below.1) (mid_is ∙ ap (λ (x : List Range). x ++ own) was.3)
          ∙ append_assoc (before ++ was.2) own below.1 ∙ append_assoc before was.2 (own ++ below.1),
      λ more say. subst (λ (x : List Range). Say place cells way nodes x)
          (ap (λ (x : List Range). was.2 ++ x) (sym (append_assoc own below.1 more)) ∙ sym (append_assoc was.2 (own ++ below.1) more))
          (was.4 (own ++ (below.1 ++ more))
          (one_node place cells way n s one.0 one.1 was.0 Q own below.1 more inner found inside through one.2 is_properties own_is cells_are way_is
          place_is through_is below.2 say)),
    )

pub finish : (place : Place) (cells : Cells) (way : Path) (P R : List Part) (before now : List Range) → Reached place cells way P R before now
    → BeginsNoNode R → Noted place cells way P R before now
finish place cells way P R before now reached no_node = λ nodes behind e none.
    let was = reached nodes behind e none in
    let left = no_front was.0 R behind was.1 no_node in (
      was.1 ∙ ap (λ (z : Nodes). parts_of_nodes z ++ behind) left,
      was.2,
      subst (λ (x : List Range). Say place cells way nodes x) (append-nil was.2)
          (was.4 [] (subst (λ (z : Nodes). Say place cells way z []) (sym left) nothing)),
      was.3,
    )

-- the properties and the children of a root are those of its tree
pub root_front : (R : List Part) (n : List ℕ) (s : List Setting) (I : List Part) (tree : Tree) → R ≡ parts_of_tree tree
    → R ≡ begins n ∷ (map has s ++ I) → HasNoProperty I → (s ≡ tree.properties) × (I ≡ parts_of_nodes tree.children ++ (ends ∷ []))
root_front R n s I tree e begun none =
    let whole : begins n ∷ (map has s ++ I) ≡ begins [] ∷ (map has tree.properties ++ (parts_of_nodes tree.children ++ (ends ∷ []))) = sym begun ∙ e in
    let later : map has s ++ I ≡ map has tree.properties ++ (parts_of_nodes tree.children ++ (ends ∷ [])) = cc (whole) in
    same_properties s tree.properties I _ later none (nodes_have_none tree.children _)
