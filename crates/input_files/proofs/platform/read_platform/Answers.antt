use Rattle.std.proofs.Common.{◌∷◌, [], inl, sym}
use Rattle.std.proofs.lemmas.Result.{err_from_is_err_and}
use Rattle.toml.specs.View.{table_view}
use Rattle.input_files.specs.Breaches.{HasBrokenRule, document_checks, form_checks}
use Rattle.input_files.proofs.Checked.{clear_form, fault_onward, first_before, first_behind}
use Rattle.input_files.proofs.platform.read_platform.Goals as goal

pub returns-in_err-form-clause-first : goal.returns-in_err-form-clause-first
returns-in_err-form-clause-first c =
    let p = err_from_is_err_and c.from_residual.result c.from_residual.ensures.1 in
    let document = table_view c.args.document.now in
    rw (p.1, p.2) (fault_onward (form_checks document) (document_checks document) _ (λ b first. first_before (form_checks document)
    (HasBrokenRule document ∷ []) b first) c.in_err-form.ensures.first)

pub returns-clause-first : goal.returns-clause-first
returns-clause-first c =
    let document = table_view c.args.document.now in
    let form = c.in_ok-form.ensures.ok in
    let whole = c.in_ok-form.ensures.whole in
    first_behind (form_checks document) (HasBrokenRule document ∷ []) _ (clear_form document _ _ _ _ _ form whole.0 whole.1 whole.2)
    (inl (
      _,
      _,
      _,
      _,
      _,
      c.in-Err.fault,
      rw (sym c.as_slice-ram.ensures.value, sym c.as_slice-devices.ensures.value) at form,
      c.in-Err.ensures.fault,
      c.in_ok-breach_by-in-Err.ensures,
    ))
