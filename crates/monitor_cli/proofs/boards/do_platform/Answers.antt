use Rattle.std.proofs.Common.{inl, inr, refl}
use Rattle.std.proofs.lemmas.Result.{err_from_is_err_and}
use Rattle.monitor_cli.proofs.boards.do_platform.Goals as goal

pub returns-in_err-bytes : goal.returns-in_err-bytes
returns-in_err-bytes g c =
    let p = err_from_is_err_and c.from_residual.result c.from_residual.ensures.1 in
    rw (p.1, p.2) (inr (inr (inl c.in_err-bytes.ensures.refused), refl))

pub returns-in-Err : goal.returns-in-Err
returns-in-Err g c =
    let refused = rw c.as_slice.ensures.value at c.in-Err.ensures.refused in
    elim c.board_trouble.ensures [
      | inl e ↦ inr (inl e, refl)
      | inr said ↦ inr (inr (inr (_, c.in_ok-bytes.ensures.whole, (c.in-Err.fault, said.0, refused, said.1))), refl)
    ]

pub returns-in_err-write_whole : goal.returns-in_err-write_whole
returns-in_err-write_whole g c =
    let p = err_from_is_err_and c.from_residual-in_err-write_whole.result c.from_residual-in_err-write_whole.ensures.1 in
    let ok = rw c.as_slice.ensures.value at c.in-Ok.ensures.ok in
    rw (p.1, p.2) (inl (refl, (_, _, (_, c.in_ok-bytes.ensures.whole, ok, refl), rw c.as_slice-2.ensures.value at c.in_err-write_whole.ensures)))

pub returns : goal.returns
returns g c =
    let ok = rw c.as_slice.ensures.value at c.in-Ok.ensures.ok in
    (_, (_, c.in_ok-bytes.ensures.whole, ok, refl), rw c.as_slice-2.ensures.value at c.in_ok-write_whole.ensures)
