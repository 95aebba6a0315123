use Rattle.std.proofs.Common.{◌++◌, ◌∷◌, [], map, codes, sym, ap, subst, refl}
use Rattle.device_tree.specs.Pieces.{has}
use Rattle.host_tree.specs.Ranges.{compatible_of}
use Rattle.host_tree.specs.declared.reserved.Purpose.{Purpose}
use Rattle.host_tree.specs.Written.{Adds, IsText, setting}
use Rattle.std.proofs.lemmas.Result.{err_from_is_err_and}
use Rattle.host_tree.proofs.WriteFaults.{put_none, set_text}
use Rattle.host_tree.proofs.Adding.{adds_same, property_is}
use Rattle.host_tree.proofs.reserved.put_compatible.Goals as goal

pub returns-in_ok-put_property-in-Pool-clause-put : goal.returns-in_ok-put_property-in-Pool-clause-put
returns-in_ok-put_property-in-Pool-clause-put c =
    let one = setting (codes "compatible") (codes "pmpmon,pool" ++ 0 ∷ []) in
    let written : Adds c.args.writer.now _ (has one ∷ []) =
    property_is _ _ _ (codes "compatible") _ (codes "pmpmon,pool" ++ 0 ∷ []) c.as_slice.ensures c.as_slice-in-Pool.ensures
    c.in_ok-put_property-in-Pool.ensures.put in
    adds_same _ _ (has one ∷ []) (map has (compatible_of c.args.purpose)) (ap (λ (p : Purpose). map has (compatible_of p)) (sym c.in-Pool.is)) written

pub returns-in_err-put_property-in-Pool-clause-refused : goal.returns-in_err-put_property-in-Pool-clause-refused
returns-in_err-put_property-in-Pool-clause-refused c =
    let p = err_from_is_err_and c.from_residual.result c.from_residual.ensures.1 in
    rw (p.1, p.2) (put_none (has (setting c.as_slice.result.now c.as_slice-in-Pool.result.now) ∷ [])
    (set_text c.as_slice.result.now c.as_slice-in-Pool.result.now (subst IsText (sym c.as_slice.ensures) refl)) _ c.in_err-put_property-in-Pool.ensures.refused)
