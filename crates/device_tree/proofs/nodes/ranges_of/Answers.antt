use Rattle.std.proofs.Common.{◌∙◌, ap, sym, subst, List, [], ◌∷◌, ◌++◌, map}
use Rattle.device_tree.specs.Pieces.{Part, Setting, has, ends, parts_of}
use Rattle.device_tree.specs.Nodes.{parts_of_tree}
use Rattle.device_tree.proofs.OneTree.{ends_begins_none}
use Rattle.device_tree.specs.declared.kinds.Place.TheVariants.{BelowRoot}
use Rattle.device_tree.specs.declared.registers.Found.{Found}
use Rattle.device_tree.specs.Windows.{same}
use Rattle.device_tree.specs.Meaning.{AreCells, Range, Say, said_of}
use Rattle.device_tree.specs.BoardRefusals.{HasNoCells, at_root, below_root}
use Rattle.device_tree.proofs.OneNode.{root_front}
use Rattle.device_tree.proofs.NoRanges.{begin_behind}
use Rattle.device_tree.proofs.Places.{in_block}
use Rattle.device_tree.proofs.nodes.ranges_of.Goals as goal

pub returns-in-Ok-clause-ok : goal.returns-in-Ok-clause-ok
returns-in-Ok-clause-ok c = λ tree e.
    let root = c.in-Some.root in
    let parts = c.in-Some.ensures.parts in
    let cells = c.in-Some-cells_of.cells in
    let front = root_front (parts_of c.args.pieces.now) root.name.now parts.0 (parts_of root.inner.now) tree e parts.1 parts.3 in
    let noted = c.in-Ok.ensures.ok tree.children (ends ∷ []) front.1 (ends_begins_none _) in
    let added = noted.3 ∙ ap (λ (x : List Found). said_of x ++ noted.1) c.new-found.ensures.items in (
      cells,
      subst (λ (x : List Part). AreCells x cells) (parts.2 ∙ ap (λ (x : List Setting). map has x) front.0) c.in-Some-cells_of.ensures,
      subst (λ (x : List Range). Say BelowRoot cells same tree.children x) (sym added) noted.2,
    )

-- the properties of a root that say no cells
pub returns-in_default-cells_of-clause-refused : goal.returns-in_default-cells_of-clause-refused
returns-in_default-cells_of-clause-refused c = λ tree e.
    let root = c.in-Some.root in
    let parts = c.in-Some.ensures.parts in
    let pieces = c.in-Some.ensures.pieces in
    let front = root_front (parts_of c.args.pieces.now) root.name.now parts.0 (parts_of root.inner.now) tree e parts.1 parts.3 in (
      parts_of_tree tree,
      at_root (subst HasNoCells (parts.2 ∙ ap (λ (x : List Setting). map has x) front.0) c.in_default-cells_of.ensures),
      record {
        before = [];
        first = pieces.0;
        later = root.properties.now ++ root.inner.now;
        pieces_are = pieces.1;
        parts_are = ap parts_of (sym pieces.1) ∙ e;
        offset_is = pieces.2;
      },
    )

pub returns-clause-refused : goal.returns-clause-refused
returns-clause-refused c = λ tree e.
    let root = c.in-Some.root in
    let parts = c.in-Some.ensures.parts in
    let pieces = c.in-Some.ensures.pieces in
    let cells = c.in-Some-cells_of.cells in
    let fault = c.in-Err.fault in
    let front = root_front (parts_of c.args.pieces.now) root.name.now parts.0 (parts_of root.inner.now) tree e parts.1 parts.3 in
    let got = c.in-Err.ensures.refused tree.children (ends ∷ []) front.1 (ends_begins_none _) in
    let cells_too = subst (λ (x : List Part). AreCells x cells) (parts.2 ∙ ap (λ (x : List Setting). map has x) front.0) c.in-Some-cells_of.ensures in (
      got.0 ++ (ends ∷ []),
      below_root cells got.0 fault.reason cells_too got.1,
      begin_behind c.args.pieces.now root.inner.now (pieces.0 ∷ root.properties.now) (got.0 ++ (ends ∷ [])) fault.offset pieces.1 got.2,
    )

-- and the offset is that in the bytes
pub returns-in_default-cells_of-clause-place : goal.returns-in_default-cells_of-clause-place
returns-in_default-cells_of-clause-place c = λ block tree e are.
    in_block block c.args.pieces.now tree _ are (returns-in_default-cells_of-clause-refused c tree e)

pub returns-clause-place : goal.returns-clause-place
returns-clause-place c = λ block tree e are. in_block block c.args.pieces.now tree _ are (returns-clause-refused c tree e)
