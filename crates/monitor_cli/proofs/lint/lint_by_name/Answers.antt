use Rattle.std.proofs.Common.{◌∙◌, inr, sym, true, false}
use Rattle.std.proofs.lemmas.Result.{err_from_is_err_and}
use Rattle.monitor_cli.proofs.LintEnds.{of_bytes}
use Rattle.monitor_cli.proofs.lint.lint_by_name.Goals as goal

pub returns-in_err-bytes : goal.returns-in_err-bytes
returns-in_err-bytes g c =
    let p = err_from_is_err_and c.from_residual.result c.from_residual.ensures.1 in
    rw (p.1, p.2) (inr c.in_err-bytes.ensures.refused)

pub returns-then-names_platform : goal.returns-then-names_platform
returns-then-names_platform g c =
    let found = rw c.as_slice.ensures.value at c.lint_as_platform.ensures.found in
    rw (sym c.names_platform.ensures ∙ c.if-names_platform.true)
    (of_bytes true _ _ c.in_ok-bytes.bytes.items c.lint_as_platform.result c.in_ok-bytes.ensures.whole found c.lint_as_platform.ensures.stopped)

pub returns : goal.returns
returns g c =
    let found = rw c.as_slice-else-names_platform.ensures.value at c.lint_map.ensures.found in
    rw (sym c.names_platform.ensures ∙ c.if-names_platform.false)
    (of_bytes false _ _ c.in_ok-bytes.bytes.items c.lint_map.result c.in_ok-bytes.ensures.whole found c.lint_map.ensures.stopped)
