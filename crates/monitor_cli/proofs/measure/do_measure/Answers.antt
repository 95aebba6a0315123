use Rattle.std.proofs.Common.{◌≡◌, ◌∙◌, ap, inl, inr, refl}
use Rattle.std.proofs.lemmas.Result.{err_from_is_err_and}
use Rattle.monitor_cli.specs.Measure.{digest_text, enclave_digest}
use Rattle.monitor_cli.proofs.measure.do_measure.Goals as goal

pub returns-then-has_too_many : goal.returns-then-has_too_many
returns-then-has_too_many g c = inr (inr (inl (c.has_too_many.ensures.many c.if-has_too_many.true, refl, refl)), refl)

pub returns-in_err-bytes : goal.returns-in_err-bytes
returns-in_err-bytes g c =
    let p = err_from_is_err_and c.from_residual.result c.from_residual.ensures.1 in
    rw (p.1, p.2) (inr (inr (inr (c.has_too_many.ensures.few c.if-has_too_many.false, c.in_err-bytes.ensures.refused)), refl))

pub returns-in_default : goal.returns-in_default
returns-in_default g c = inr (inl refl, refl)

pub returns-in_err-write_whole : goal.returns-in_err-write_whole
returns-in_err-write_whole g c =
    let p = err_from_is_err_and c.from_residual-in_err-write_whole.result c.from_residual-in_err-write_whole.ensures.1 in
    let text : c.in-Ok.text.items ≡ digest_text (enclave_digest c.args.layout c.in_ok-bytes.bytes.items) =
    c.in-Ok.ensures ∙ ap (λ b. digest_text (enclave_digest c.args.layout b)) c.as_slice.ensures.value in
    rw (p.1, p.2)
    (inl (
      refl,
      (
        _,
        _,
        (_, c.has_too_many.ensures.few c.if-has_too_many.false, c.in_ok-bytes.ensures.whole, c.as_slice-2.ensures.value ∙ text, refl),
        c.in_err-write_whole.ensures,
      ),
    ))

pub returns : goal.returns
returns g c =
    let text : c.in-Ok.text.items ≡ digest_text (enclave_digest c.args.layout c.in_ok-bytes.bytes.items) =
    c.in-Ok.ensures ∙ ap (λ b. digest_text (enclave_digest c.args.layout b)) c.as_slice.ensures.value in (
      _,
      (_, c.has_too_many.ensures.few c.if-has_too_many.false, c.in_ok-bytes.ensures.whole, c.as_slice-2.ensures.value ∙ text, refl),
      c.in_ok-write_whole.ensures,
    )
