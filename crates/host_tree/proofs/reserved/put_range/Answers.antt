use Rattle.std.proofs.Common.{◌++◌, ◌∷◌, ◌∙◌, [], map, subst, sym}
use Rattle.device_tree.specs.Pieces.{begins, ends, has}
use Rattle.host_tree.specs.Ranges.{range_name, range_settings}
use Rattle.std.proofs.lemmas.Result.{err_from_is_err_and}
use Rattle.host_tree.specs.Written.{IsText}
use Rattle.host_tree.proofs.HexTexts.{range_text}
use Rattle.host_tree.proofs.WriteFaults.{begun_text, put_ranged, range_no_memory}
use Rattle.host_tree.proofs.Adding.{adds_both, begin_is}
use Rattle.host_tree.proofs.reserved.put_range.Goals as goal

pub returns-clause-written : goal.returns-clause-written
returns-clause-written c =
    let cells = c.args.cells.now in
    let range = c.args.range in
    let begun = begin_is _ _ _ (range_name range) (c.as_slice.ensures.value ∙ c.in_ok-name.ensures.ok) c.in_ok-put_begin.ensures.put in
    let last = adds_both _ _ _ (map has (range_settings cells range)) (ends ∷ []) c.in_ok-put_settings.ensures.written c.in_ok-put_end.ensures.put in
    adds_both _ _ _ (begins (range_name range) ∷ []) (map has (range_settings cells range) ++ (ends ∷ [])) begun last

pub returns-in_err-name-clause-refused : goal.returns-in_err-name-clause-refused
returns-in_err-name-clause-refused c =
    let p = err_from_is_err_and c.from_residual.result c.from_residual.ensures.1 in
    rw (p.1, p.2) (range_no_memory c.args.cells.now (c.args.range ∷ []) _ c.in_err-name.ensures.refused)

pub returns-in_err-put_begin-clause-refused : goal.returns-in_err-put_begin-clause-refused
returns-in_err-put_begin-clause-refused c =
    let p = err_from_is_err_and c.from_residual-in_err-put_begin.result c.from_residual-in_err-put_begin.ensures.1 in
    rw (p.1, p.2) (put_ranged (begins c.as_slice.result.now ∷ []) c.args.cells.now (c.args.range ∷ [])
    (begun_text c.as_slice.result.now (subst IsText (sym (c.as_slice.ensures.value ∙ c.in_ok-name.ensures.ok)) (range_text c.args.range))) _
    c.in_err-put_begin.ensures.refused)

pub returns-in_err-put_end-clause-refused : goal.returns-in_err-put_end-clause-refused
returns-in_err-put_end-clause-refused c =
    let p = err_from_is_err_and c.from_residual-in_err-put_end.result c.from_residual-in_err-put_end.ensures.1 in
    rw (p.1, p.2) (put_ranged [] c.args.cells.now (c.args.range ∷ []) (λ zero. zero) _ c.in_err-put_end.ensures.refused)
