use Rattle.std.proofs.Common.{[], ◌∙◌, ap, sym}
use Rattle.std.proofs.lemmas.Result.{err_from_is_err_and}
use Rattle.text_lines.specs.Columns.{placed_at, words_in}
use Rattle.hart_trace.proofs.EventWords.{no_store, store_exceeds, store_lacks, store_read}
use Rattle.hart_trace.specs.declared.fault.Slot.{Slot}
use Rattle.std.proofs.Common.{◌∷◌}
use Rattle.hart_trace.proofs.event_words.store_in.Goals as goal

pub returns-in_err-access-clause-value : goal.returns-in_err-access-clause-value
returns-in_err-access-clause-value c =
    let p = err_from_is_err_and c.from_residual.result c.from_residual.ensures.1 in
    rw p.1 (sym (no_store (words_in (placed_at c.args.text.now c.args.at)) c.in_err-access.ensures.fault.says))

pub returns-in_err-access-clause-fault : goal.returns-in_err-access-clause-fault
returns-in_err-access-clause-fault c =
    let p = err_from_is_err_and c.from_residual.result c.from_residual.ensures.1 in
    rw (p.1, p.2) (c.in_err-access.ensures.fault.wrong (Slot.Value ∷ []))

pub returns-in_err-value-clause-value : goal.returns-in_err-value-clause-value
returns-in_err-value-clause-value c =
    let p = err_from_is_err_and c.from_residual-in_err-value.result c.from_residual-in_err-value.ensures.1 in
    rw p.1 (sym (store_lacks _ _ _ _ _ c.in_ok-access.ensures.read c.in_err-value.ensures.fault).0)

pub returns-in_err-value-clause-fault : goal.returns-in_err-value-clause-fault
returns-in_err-value-clause-fault c =
    let p = err_from_is_err_and c.from_residual-in_err-value.result c.from_residual-in_err-value.ensures.1 in
    rw (p.1, p.2) (store_lacks _ _ _ _ _ c.in_ok-access.ensures.read c.in_err-value.ensures.fault).1

pub returns-in_err-end_in-clause-value : goal.returns-in_err-end_in-clause-value
returns-in_err-end_in-clause-value c =
    let p = err_from_is_err_and c.from_residual-in_err-end_in.result c.from_residual-in_err-end_in.ensures.1 in
    rw p.1 (sym (store_exceeds _ _ _ _ _ _ _ c.in_ok-access.ensures.read c.in_ok-value.ensures.read c.in_err-end_in.ensures.fault).0)

pub returns-in_err-end_in-clause-fault : goal.returns-in_err-end_in-clause-fault
returns-in_err-end_in-clause-fault c =
    let p = err_from_is_err_and c.from_residual-in_err-end_in.result c.from_residual-in_err-end_in.ensures.1 in
    rw (p.1, p.2) (store_exceeds _ _ _ _ _ _ _ c.in_ok-access.ensures.read c.in_ok-value.ensures.read c.in_err-end_in.ensures.fault).1

pub returns-clause-value : goal.returns-clause-value
returns-clause-value c =
    let v = c.in_ok-value.ensures.read in
    sym (store_read (words_in (placed_at c.args.text.now c.args.at)) _ _ (v.0).1 _ c.in_ok-access.ensures.read.says (ap words_in (v.1
    ∙ ap (λ ws. v.0 ∷ ws) c.in_ok-end_in.ensures.end)) v.2)
