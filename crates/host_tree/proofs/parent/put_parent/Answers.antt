use Rattle.std.proofs.Common.{◌++◌, ◌∷◌, [], map, codes, subst, sym, refl}
use Rattle.device_tree.specs.Pieces.{begins, ends, has}
use Rattle.device_tree.specs.Nodes.{parts_of_nodes}
use Rattle.host_tree.specs.Ranges.{parent_settings, range_nodes}
use Rattle.std.proofs.lemmas.Result.{err_from_is_err_and}
use Rattle.host_tree.specs.Written.{IsText}
use Rattle.host_tree.proofs.WriteFaults.{begun_text, put_ranged}
use Rattle.host_tree.proofs.Adding.{adds_both, begin_is}
use Rattle.host_tree.proofs.parent.put_parent.Goals as goal

pub returns-clause-written : goal.returns-clause-written
returns-clause-written c =
    let cells = c.args.cells.now in
    let rn = parts_of_nodes (range_nodes cells c.args.ranges.now) in
    let begun = begin_is _ _ _ (codes "reserved-memory") c.as_slice.ensures c.in_ok-put_begin.ensures.put in
    let last = adds_both _ _ _ rn (ends ∷ []) c.in_ok-put_ranges.ensures.written c.in_ok-put_end.ensures.put in
    let more = adds_both _ _ _ (map has (parent_settings cells)) (rn ++ (ends ∷ [])) c.in_ok-put_settings.ensures.put last in
    adds_both _ _ _ (begins (codes "reserved-memory") ∷ []) (map has (parent_settings cells) ++ (rn ++ (ends ∷ []))) begun more

pub returns-in_err-put_begin-clause-refused : goal.returns-in_err-put_begin-clause-refused
returns-in_err-put_begin-clause-refused c =
    let p = err_from_is_err_and c.from_residual.result c.from_residual.ensures.1 in
    rw (p.1, p.2) (put_ranged (begins c.as_slice.result.now ∷ []) c.args.cells.now c.args.ranges.now
    (begun_text c.as_slice.result.now (subst IsText (sym c.as_slice.ensures) refl)) _ c.in_err-put_begin.ensures.refused)

pub returns-in_err-put_settings-clause-refused : goal.returns-in_err-put_settings-clause-refused
returns-in_err-put_settings-clause-refused c =
    let p = err_from_is_err_and c.from_residual-in_err-put_settings.result c.from_residual-in_err-put_settings.ensures.1 in
    rw (p.1, p.2) (put_ranged [] c.args.cells.now c.args.ranges.now (λ zero. zero) _ c.in_err-put_settings.ensures.refused)

pub returns-in_err-put_end-clause-refused : goal.returns-in_err-put_end-clause-refused
returns-in_err-put_end-clause-refused c =
    let p = err_from_is_err_and c.from_residual-in_err-put_end.result c.from_residual-in_err-put_end.ensures.1 in
    rw (p.1, p.2) (put_ranged [] c.args.cells.now c.args.ranges.now (λ zero. zero) _ c.in_err-put_end.ensures.refused)
