-- A node in front of nodes, and the host's.
use Rattle.std.proofs.Common.{◌≡◌, ℕ, List, [], ◌∷◌, ◌++◌, Option, map, codes, sym, ap, subst, refl, ◌∙◌, append_assoc}
use Rattle.device_tree.specs.Pieces.{Part, Setting, begins, has, ends}
use Rattle.device_tree.specs.Nodes.{Nodes, no_nodes, node, parts_of_nodes, BeginsNoNode, HasNoProperty}
use Rattle.device_tree.proofs.OneTree.{ends_begins_none}
use Rattle.device_tree.specs.declared.cells.Cells.{Cells}
use Rattle.device_tree.specs.declared.kinds.Place.{Place}
use Rattle.device_tree.specs.declared.rows.Extent.{Extent}
use Rattle.device_tree.specs.Windows.{Path}
use Rattle.device_tree.specs.Properties.{value_in}
use Rattle.device_tree.specs.Meaning.{AreCells, IsInnerWay, inner_place, live_kind, path_or}
use Rattle.device_tree.proofs.OneNode.{front, no_front}
use Rattle.host_tree.specs.declared.writer.TreeWriter.{TreeWriter}
use Rattle.host_tree.specs.Written.{Adds}
use Rattle.host_tree.specs.HostNodes.{AreRegisters, HostNodes, IsChild, Portion, a_node, node_settings, nothing}
use Rattle.host_tree.proofs.Adding.{adds_both, adds_none, adds_same, node_parts}

-- the nodes in front of P are written as the host has them, and B is behind them
abbrev pub Noted : Portion → Place → Cells → Path → List Part → List Part → TreeWriter → TreeWriter → Type 0
Noted host place cells way P B old now = (nodes : Nodes) (behind : List Part) → P ≡ parts_of_nodes nodes ++ behind → BeginsNoNode behind
    → (B ≡ behind) × (made : Nodes) × HostNodes host place cells way nodes made × Adds old now (parts_of_nodes made)

-- what is written of a node's beginning and of its children makes a child
pub child : (host : Portion) (place : Place) (cells : Cells) (way : Path) (n : List ℕ) (Q I B : List Part) (old mid now : TreeWriter)
    (rows : List Extent) → AreRegisters (live_kind place Q) (value_in (codes "reg") Q) cells rows
    → ((own : List Setting) → Q ≡ map has own → Adds old mid (begins n ∷ map has (node_settings host place way rows own)))
    → (inner : Cells) (found : Option Path) (inside : Place) (through : Path) → AreCells Q inner
    → IsInnerWay (value_in (codes "ranges") Q) inner cells.address way found
    → inside ≡ inner_place place n Q found → through ≡ path_or found
    → Noted host inside inner through I B mid now → IsChild host place cells way n Q I B old now
child host place cells way n Q I B old mid now rows regs head inner found inside through cells_are way_is place_is through_is noted =
    λ own c rest is I_is none.
    let below = noted c rest I_is none in
    let made = node_settings host place way rows own in
    let regs_too : AreRegisters (live_kind place (map has own)) (value_in (codes "reg") (map has own)) cells rows =
    subst (λ (x : List Part). AreRegisters (live_kind place x) (value_in (codes "reg") x) cells rows) is regs in
    let cells_too : AreCells (map has own) inner = subst (λ (x : List Part). AreCells x inner) is cells_are in
    let way_too : IsInnerWay (value_in (codes "ranges") (map has own)) inner cells.address way found =
    subst (λ (x : List Part). IsInnerWay (value_in (codes "ranges") x) inner cells.address way found) is way_is in
    let place_too : inside ≡ inner_place place n (map has own) found = place_is ∙ ap (λ (x : List Part). inner_place place n x found) is in
    let at_place : HostNodes host (inner_place place n (map has own) found) inner through c below.1 =
    subst (λ (x : Place). HostNodes host x inner through c below.1) place_too below.2 in
    let below_too : HostNodes host (inner_place place n (map has own) found) inner (path_or found) c below.1 =
    subst (λ (x : Path). HostNodes host (inner_place place n (map has own) found) inner x c below.1) through_is at_place in (
      below.0,
      made,
      below.1,
      λ later more h. a_node rows inner found regs_too cells_too way_too below_too h,
      adds_both old mid now (begins n ∷ map has made) (parts_of_nodes below.1) (head own is) below.3,
    )

-- of the nodes in front of P those before R are written; F is what is made of all
abbrev pub Reached : (Nodes → Nodes) → Portion → Place → Cells → Path → List Part → List Part → TreeWriter → TreeWriter → Type 0
Reached F host place cells way P R old now = (nodes : Nodes) (behind : List Part) → P ≡ parts_of_nodes nodes ++ behind → BeginsNoNode behind
    → (left : Nodes) × (R ≡ parts_of_nodes left ++ behind)
    × (done : List Part) × Adds old now done
    × ((more : Nodes) → HostNodes host place cells way left more
    → (made : Nodes) × HostNodes host place cells way nodes made × (parts_of_nodes (F made) ≡ done ++ parts_of_nodes (F more)))

pub start : (F : Nodes → Nodes) (host : Portion) (place : Place) (cells : Cells) (way : Path) (P : List Part) (old : TreeWriter)
    → Reached F host place cells way P P old old
start F host place cells way P old = λ nodes behind e none. (nodes, e, [], adds_none old, λ more h. (more, h, refl))

pub next : (F : Nodes → Nodes) (host : Portion) (place : Place) (cells : Cells) (way : Path) (P R : List Part) (old now : TreeWriter)
    → Reached F host place cells way P R old now
    → (n : List ℕ) (s : List Setting) (I Q : List Part) → R ≡ begins n ∷ (map has s ++ I) → Q ≡ map has s → HasNoProperty I
    → ((made : List Setting) (inside more : Nodes) → F (node n made inside more) ≡ node n made inside (F more))
    → (B : List Part) (mid last : TreeWriter) → IsChild host place cells way n Q I B now mid → Adds mid last (ends ∷ [])
    → (L : List Part) → ((rest : List Part) → B ≡ ends ∷ rest → L ≡ rest)
    → Reached F host place cells way P L old last
next F host place cells way P R old now reached n s I Q begun is_properties no_property goes_on B mid last one_is ended L end = λ nodes behind e none.
    let was = reached nodes behind e none in
    let one = front R n s I was.0 behind was.1 begun no_property none in
    let here = one_is s one.0 (ends ∷ (parts_of_nodes one.1 ++ behind)) is_properties one.3 (ends_begins_none _) in
    let begun_parts : List Part = begins n ∷ (map has here.1 ++ parts_of_nodes here.2) in (
      one.1,
      end _ here.0,
      was.2 ++ (begun_parts ++ (ends ∷ [])),
      adds_both old now last was.2 (begun_parts ++ (ends ∷ [])) was.3 (adds_both now mid last begun_parts (ends ∷ []) here.4 ended),
      λ more h.
          let whole : HostNodes host place cells way was.0 (node n here.1 here.2 more) =
          subst (λ (z : Nodes). HostNodes host place cells way z (node n here.1 here.2 more)) (sym one.2) (here.3 one.1 more h) in
          let made = was.4 (node n here.1 here.2 more) whole in (
            made.0,
            made.1,
            made.2 ∙ ap (λ (z : Nodes). was.2 ++ parts_of_nodes z) (goes_on here.1 here.2 more)
                ∙ ap (λ (z : List Part). was.2 ++ z) (sym (node_parts n here.1 here.2 (F more)) ∙ sym (append_assoc begun_parts (ends ∷ []) (parts_of_nodes (F
                more))))
                ∙ sym (append_assoc was.2 (begun_parts ++ (ends ∷ [])) (parts_of_nodes (F more))),
          ),
    )

-- no node is left, and what is made of none is written
pub at_end : (F : Nodes → Nodes) (host : Portion) (place : Place) (cells : Cells) (way : Path) (P R : List Part) (old now last : TreeWriter)
    → Reached F host place cells way P R old now → BeginsNoNode R → Adds now last (parts_of_nodes (F no_nodes))
    → (nodes : Nodes) (behind : List Part) → P ≡ parts_of_nodes nodes ++ behind → BeginsNoNode behind
    → (R ≡ behind) × (made : Nodes) × HostNodes host place cells way nodes made × Adds old last (parts_of_nodes (F made))
at_end F host place cells way P R old now last reached no_node ended nodes behind e none =
    let was = reached nodes behind e none in
    let left = no_front was.0 R behind was.1 no_node in
    let made = was.4 no_nodes (subst (λ (z : Nodes). HostNodes host place cells way z no_nodes) (sym left) nothing) in (
      was.1 ∙ ap (λ (z : Nodes). parts_of_nodes z ++ behind) left,
      made.0,
      made.1,
      adds_same old last (was.2 ++ parts_of_nodes (F no_nodes)) (parts_of_nodes (F made.0)) (sym made.2)
          (adds_both old now last was.2 (parts_of_nodes (F no_nodes)) was.3 ended),
    )

pub finish : (host : Portion) (place : Place) (cells : Cells) (way : Path) (P R : List Part) (old now : TreeWriter)
    → Reached (λ (x : Nodes). x) host place cells way P R old now → BeginsNoNode R → Noted host place cells way P R old now
finish host place cells way P R old now reached no_node = λ nodes behind e none.
    at_end (λ (x : Nodes). x) host place cells way P R old now now reached no_node (adds_none now) nodes behind e none

-- a node is the last that is looked at: what is made of it, and the nodes behind it, are written
pub at_node : (F : Nodes → Nodes) (host : Portion) (place : Place) (cells : Cells) (way : Path) (P R : List Part) (old now : TreeWriter)
    → Reached F host place cells way P R old now
    → (n : List ℕ) (s : List Setting) (I Q : List Part) → R ≡ begins n ∷ (map has s ++ I) → Q ≡ map has s → HasNoProperty I
    → (added : List Part)
    → ((made : List Setting) (inside more : Nodes) → parts_of_nodes (F (node n made inside more))
    ≡ (begins n ∷ (map has made ++ parts_of_nodes inside)) ++ (added ++ (ends ∷ parts_of_nodes more)))
    → (B : List Part) (mid last : TreeWriter) → IsChild host place cells way n Q I B now mid
    → ((later : Nodes) (behind : List Part) → B ≡ ends ∷ (parts_of_nodes later ++ behind) → BeginsNoNode behind
    → (made : Nodes) × HostNodes host place cells way later made × Adds mid last (added ++ (ends ∷ parts_of_nodes made)))
    → (nodes : Nodes) (behind : List Part) → P ≡ parts_of_nodes nodes ++ behind → BeginsNoNode behind
    → (made : Nodes) × HostNodes host place cells way nodes made × Adds old last (parts_of_nodes (F made))
at_node F host place cells way P R old now reached n s I Q begun is_properties no_property added made_of B mid last one_is rest nodes behind e none =
    let was = reached nodes behind e none in
    let one = front R n s I was.0 behind was.1 begun no_property none in
    let here = one_is s one.0 (ends ∷ (parts_of_nodes one.1 ++ behind)) is_properties one.3 (ends_begins_none _) in
    let begun_parts : List Part = begins n ∷ (map has here.1 ++ parts_of_nodes here.2) in
    let later = rest one.1 behind here.0 none in
    let whole : HostNodes host place cells way was.0 (node n here.1 here.2 later.0) =
    subst (λ (z : Nodes). HostNodes host place cells way z (node n here.1 here.2 later.0)) (sym one.2) (here.3 one.1 later.0 later.1) in
    let made = was.4 (node n here.1 here.2 later.0) whole in
    let parts : List Part = begun_parts ++ (added ++ (ends ∷ parts_of_nodes later.0)) in
    let is : was.2 ++ parts ≡ parts_of_nodes (F made.0) =
    ap (λ (z : List Part). was.2 ++ z) (sym (made_of here.1 here.2 later.0)) ∙ sym made.2 in (
      made.0,
      made.1,
      adds_same old last (was.2 ++ parts) (parts_of_nodes (F made.0)) is
          (adds_both old now last was.2 parts was.3 (adds_both now mid last begun_parts (added ++ (ends ∷ parts_of_nodes later.0)) here.4 later.2)),
    )
