use Rattle.std.proofs.Common.{◌∷◌, [], subst, sym, refl}
use Rattle.std.proofs.lemmas.Result.{err_from_is_err_and}
use Rattle.device_tree.specs.Pieces.{has}
use Rattle.host_tree.specs.Written.{IsText, setting}
use Rattle.host_tree.proofs.WriteFaults.{put_ranged, range_unfit, set_text}
use Rattle.host_tree.proofs.reserved.put_settings.Goals as goal

pub returns-in_err-reg-clause-refused : goal.returns-in_err-reg-clause-refused
returns-in_err-reg-clause-refused c =
    let p = err_from_is_err_and c.from_residual.result c.from_residual.ensures.1 in
    rw (p.1, p.2) (range_unfit c.args.cells.now c.args.range _ c.in_err-reg.ensures.refused)

pub returns-in_err-put_compatible-clause-refused : goal.returns-in_err-put_compatible-clause-refused
returns-in_err-put_compatible-clause-refused c =
    let p = err_from_is_err_and c.from_residual-in_err-put_compatible.result c.from_residual-in_err-put_compatible.ensures.1 in
    rw (p.1, p.2) (put_ranged [] c.args.cells.now (c.args.range ∷ []) (λ zero. zero) _ c.in_err-put_compatible.ensures.refused)

pub returns-in_err-put_property-clause-refused : goal.returns-in_err-put_property-clause-refused
returns-in_err-put_property-clause-refused c =
    let p = err_from_is_err_and c.from_residual-in_err-put_property.result c.from_residual-in_err-put_property.ensures.1 in
    rw (p.1, p.2) (put_ranged (has (setting c.as_slice.result.now c.as_slice-2.result.now) ∷ []) c.args.cells.now (c.args.range ∷ [])
    (set_text c.as_slice.result.now c.as_slice-2.result.now (subst IsText (sym c.as_slice.ensures) refl)) _ c.in_err-put_property.ensures.refused)

pub returns-in_err-put_property-2-clause-refused : goal.returns-in_err-put_property-2-clause-refused
returns-in_err-put_property-2-clause-refused c =
    let p = err_from_is_err_and c.from_residual-in_err-put_property-2.result c.from_residual-in_err-put_property-2.ensures.1 in
    rw (p.1, p.2) (put_ranged (has (setting c.as_slice-3.result.now c.as_slice-4.result.now) ∷ []) c.args.cells.now (c.args.range ∷ [])
    (set_text c.as_slice-3.result.now c.as_slice-4.result.now (subst IsText (sym c.as_slice-3.ensures) refl)) _ c.in_err-put_property-2.ensures.refused)
