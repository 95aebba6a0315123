use Rattle.std.proofs.Common.{◌∷◌, ◌∙◌, [], codes, subst, sym, refl}
use Rattle.device_tree.specs.Pieces.{has}
use Rattle.byteorder.specs.Endian.{big_bytes}
use Rattle.host_tree.specs.Written.{IsText, setting}
use Rattle.std.proofs.lemmas.Result.{err_from_is_err_and}
use Rattle.host_tree.proofs.WriteFaults.{put_none, set_text}
use Rattle.host_tree.proofs.Adding.{adds_both, property_is}
use Rattle.host_tree.proofs.parent.put_settings.Goals as goal

pub returns-clause-put : goal.returns-clause-put
returns-clause-put c =
    let cells = c.args.cells.now in
    let a = setting (codes "#address-cells") (big_bytes 4 cells.address) in
    let s = setting (codes "#size-cells") (big_bytes 4 cells.size) in
    let r = setting (codes "ranges") [] in
    let first = property_is _ _ _ (codes "#address-cells") _ (big_bytes 4 cells.address) c.as_slice.ensures (c.as_slice-2.ensures ∙
    c.count_bytes-address.ensures) c.in_ok-put_property.ensures.put in
    let second = property_is _ _ _ (codes "#size-cells") _ (big_bytes 4 cells.size) c.as_slice-3.ensures (c.as_slice-4.ensures ∙
    c.count_bytes-size.ensures) c.in_ok-put_property-2.ensures.put in
    let third = property_is _ _ _ (codes "ranges") _ [] c.as_slice-5.ensures c.as_slice-6.ensures c.in_ok-put_property-3.ensures.put in
    adds_both _ _ _ (has a ∷ []) (has s ∷ has r ∷ []) first (adds_both _ _ _ (has s ∷ []) (has r ∷ []) second third)

pub returns-in_err-put_property-clause-refused : goal.returns-in_err-put_property-clause-refused
returns-in_err-put_property-clause-refused c =
    let p = err_from_is_err_and c.from_residual.result c.from_residual.ensures.1 in
    rw (p.1, p.2) (put_none (has (setting c.as_slice.result.now c.as_slice-2.result.now) ∷ [])
    (set_text c.as_slice.result.now c.as_slice-2.result.now (subst IsText (sym c.as_slice.ensures) refl)) _ c.in_err-put_property.ensures.refused)

pub returns-in_err-put_property-2-clause-refused : goal.returns-in_err-put_property-2-clause-refused
returns-in_err-put_property-2-clause-refused c =
    let p = err_from_is_err_and c.from_residual-in_err-put_property-2.result c.from_residual-in_err-put_property-2.ensures.1 in
    rw (p.1, p.2) (put_none (has (setting c.as_slice-3.result.now c.as_slice-4.result.now) ∷ [])
    (set_text c.as_slice-3.result.now c.as_slice-4.result.now (subst IsText (sym c.as_slice-3.ensures) refl)) _ c.in_err-put_property-2.ensures.refused)

pub returns-in_err-put_property-3-clause-refused : goal.returns-in_err-put_property-3-clause-refused
returns-in_err-put_property-3-clause-refused c =
    let p = err_from_is_err_and c.from_residual-in_err-put_property-3.result c.from_residual-in_err-put_property-3.ensures.1 in
    rw (p.1, p.2) (put_none (has (setting c.as_slice-5.result.now c.as_slice-6.result.now) ∷ [])
    (set_text c.as_slice-5.result.now c.as_slice-6.result.now (subst IsText (sym c.as_slice-5.ensures) refl)) _ c.in_err-put_property-3.ensures.refused)
