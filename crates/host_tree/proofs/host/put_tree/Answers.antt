use Rattle.std.proofs.Common.{◌≡◌, ◌++◌, ◌∷◌, [], ◌∙◌, false, List, map, sym, ap, subst, refl}
use Rattle.device_tree.specs.Pieces.{Part, Setting, begins, ends, has, parts_of}
use Rattle.device_tree.specs.Nodes.{parts_of_nodes, parts_of_tree}
use Rattle.device_tree.proofs.OneTree.{ends_begins_none}
use Rattle.device_tree.specs.Meaning.{AreCells}
use Rattle.device_tree.proofs.OneNode.{root_front}
use Rattle.device_tree.specs.BoardRefusals.{HasNoCells, at_root}
use Rattle.std.proofs.lemmas.Result.{err_from_is_err_and}
use Rattle.host_tree.specs.Refusals.{HasZeroName}
use Rattle.host_tree.specs.Settings.{left_settings}
use Rattle.host_tree.specs.Ranges.{with_ranges}
use Rattle.host_tree.proofs.Adding.{adds_both, adds_same}
use Rattle.host_tree.proofs.Ranged.{kept_settings}
use Rattle.host_tree.proofs.RootRefused.{children_refused, own_refused, parts_refused}
use Rattle.host_tree.proofs.WriteFaults.{zero_first}
use Rattle.host_tree.proofs.host.put_tree.Goals as goal

pub returns-clause-put : goal.returns-clause-put
returns-clause-put c = λ board e.
    let root = c.in-Some.root in
    let parts = c.in-Some.ensures.parts in
    let front = root_front (parts_of c.args.pieces.now) root.name.now parts.0 (parts_of root.inner.now) board e parts.1 parts.3 in
    let whole : begins root.name.now ∷ (map has parts.0 ++ parts_of root.inner.now) ≡ parts_of_tree board = sym parts.1 ∙ e in
    let name : root.name.now ≡ [] = cc (whole) in
    let cells = c.in-Some-cells_of.cells in
    let children = c.in_ok-put_children.ensures.ok board.children (ends ∷ []) front.1 (ends_begins_none _) in
    let made = with_ranges cells c.args.ranges.now children.0 in
    let s = board.properties in
    let own_is : parts_of root.properties.now ≡ map has s = parts.2 ∙ ap (λ (x : List Setting). map has x) front.0 in
    let own : List Part = map has (left_settings false false s) in
    let own_same : own ≡ map has s = ap (λ (x : List Setting). map has x) (kept_settings s) in
    let a1 = c.in_ok-put_begin.ensures.put in
    let a2 = c.in_ok-put_properties.ensures.put s own_is in
    let last = adds_both _ _ _ (parts_of_nodes made) (ends ∷ []) children.2 c.in_ok-put_end.ensures.put in
    let more = adds_both _ _ _ own (parts_of_nodes made ++ (ends ∷ [])) a2 last in
    let all = adds_both _ _ _ (begins root.name.now ∷ []) (own ++ (parts_of_nodes made ++ (ends ∷ []))) a1 more in
    let same : (begins root.name.now ∷ []) ++ (own ++ (parts_of_nodes made ++ (ends ∷ []))) ≡ begins [] ∷ (map has s ++ (parts_of_nodes made ++ (ends ∷
    []))) = cc in (
      record { properties = s; children = made },
      record {
        cells = cells;
        cells_are = subst (λ (x : List Part). AreCells x cells) own_is c.in-Some-cells_of.ensures;
        fit = c.in_ok-put_children.ensures.fit;
        nodes = children.0;
        nodes_are = children.1;
        properties = refl;
        children = refl;
      },
      adds_same _ _ _ _ same all,
    )

-- the properties of the root say no cells
pub returns-in_default-cells_of-clause-refused : goal.returns-in_default-cells_of-clause-refused
returns-in_default-cells_of-clause-refused c = λ board e.
    let root = c.in-Some.root in
    let parts = c.in-Some.ensures.parts in
    let front = root_front (parts_of c.args.pieces.now) root.name.now parts.0 (parts_of root.inner.now) board e parts.1 parts.3 in
    (parts_of_tree board, at_root (subst HasNoCells (parts.2 ∙ ap (λ (x : List Setting). map has x) front.0) c.in_default-cells_of.ensures))

pub returns-in_err-put_begin-clause-refused : goal.returns-in_err-put_begin-clause-refused
returns-in_err-put_begin-clause-refused c =
    let root = c.in-Some.root in
    let parts = c.in-Some.ensures.parts in
    let p = err_from_is_err_and c.from_residual.result c.from_residual.ensures.1 in
    rw (p.1, p.2) (λ board e. parts_refused board c.args.ranges.now (begins root.name.now ∷ [])
    (λ zero. subst HasZeroName (sym parts.1 ∙ e) (zero_first (begins root.name.now ∷ []) (map has parts.0 ++ parts_of root.inner.now) zero))
    _ c.in_err-put_begin.ensures.refused)

pub returns-in_err-put_properties-clause-refused : goal.returns-in_err-put_properties-clause-refused
returns-in_err-put_properties-clause-refused c =
    let root = c.in-Some.root in
    let parts = c.in-Some.ensures.parts in
    let p = err_from_is_err_and c.from_residual-in_err-put_properties.result c.from_residual-in_err-put_properties.ensures.1 in
    rw (p.1, p.2) (λ board e.
    let front = root_front (parts_of c.args.pieces.now) root.name.now parts.0 (parts_of root.inner.now) board e parts.1 parts.3 in
    own_refused board c.args.ranges.now (parts_of root.properties.now) (parts.2 ∙ ap (λ (x : List Setting). map has x) front.0)
    _ c.in_err-put_properties.ensures.refused)

pub returns-in_err-put_children-clause-refused : goal.returns-in_err-put_children-clause-refused
returns-in_err-put_children-clause-refused c =
    let root = c.in-Some.root in
    let parts = c.in-Some.ensures.parts in
    let cells = c.in-Some-cells_of.cells in
    let p = err_from_is_err_and c.from_residual-in_err-put_children.result c.from_residual-in_err-put_children.ensures.1 in
    rw (p.1, p.2) (λ board e.
    let front = root_front (parts_of c.args.pieces.now) root.name.now parts.0 (parts_of root.inner.now) board e parts.1 parts.3 in
    let own_is : parts_of root.properties.now ≡ map has board.properties = parts.2 ∙ ap (λ (x : List Setting). map has x) front.0 in
    children_refused board c.args.ranges.now cells (subst (λ (x : List Part). AreCells x cells) own_is c.in-Some-cells_of.ensures)
    _ (c.in_err-put_children.ensures.refused board.children (ends ∷ []) front.1 (ends_begins_none _)))

pub returns-in_err-put_end-clause-refused : goal.returns-in_err-put_end-clause-refused
returns-in_err-put_end-clause-refused c =
    let p = err_from_is_err_and c.from_residual-in_err-put_end.result c.from_residual-in_err-put_end.ensures.1 in
    rw (p.1, p.2) (λ board e. parts_refused board c.args.ranges.now [] (λ zero. absurd zero) _ c.in_err-put_end.ensures.refused)
