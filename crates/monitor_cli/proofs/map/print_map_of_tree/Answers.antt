use Rattle.std.proofs.Common.{◌∙◌, inl, inr, refl, sym, true≢false}
use Rattle.std.proofs.lemmas.Result.{err_from_is_err_and}
use Rattle.monitor_cli.proofs.map.print_map_of_tree.Goals as goal

pub returns-then-is_machine : goal.returns-then-is_machine
returns-then-is_machine g c = inr (inr (inl (c.is_machine.ensures.0 c.if-is_machine.true, refl)), refl)

pub returns-in-Err : goal.returns-in-Err
returns-in-Err g c = elim c.board_trouble.ensures [
  | inl e ↦ inr (inl e, refl)
  | inr said ↦ inr (inr (inr (c.in-Err.fault, said.0, c.in-Err.ensures.refused, said.1)), refl)
]

pub returns-in_err-write_whole : goal.returns-in_err-write_whole
returns-in_err-write_whole g c =
    let p = err_from_is_err_and c.from_residual.result c.from_residual.ensures.1 in
    rw (p.1, p.2) (inl (
      refl,
      (
        _,
        _,
        (λ e. true≢false (sym (c.is_machine.ensures.1 e) ∙ c.if-is_machine.false), c.in-Ok.ensures.ok, refl),
        rw c.as_slice.ensures.value at c.in_err-write_whole.ensures,
      ),
    ))

pub returns : goal.returns
returns g c = (
  _,
  (λ e. true≢false (sym (c.is_machine.ensures.1 e) ∙ c.if-is_machine.false), c.in-Ok.ensures.ok, refl),
  rw c.as_slice.ensures.value at c.in_ok-write_whole.ensures,
)
