use Rattle.std.proofs.Common.{inl, inr, refl}
use Rattle.permission_map.specs.Runs.{view_of_runs}
use Rattle.std.proofs.lemmas.Result.{err_from_is_err_and}
use Rattle.monitor_cli.proofs.check.do_check.Goals as goal

pub returns-in_err-map : goal.returns-in_err-map
returns-in_err-map g c =
    let p = err_from_is_err_and c.from_residual.result c.from_residual.ensures.1 in
    rw (p.1, p.2) (inr (inr (inl (c.in_err-map.ensures.refused, refl)), refl))

pub returns-in_err-found : goal.returns-in_err-found
returns-in_err-found g c =
    let p = err_from_is_err_and c.from_residual-in_err-found.result c.from_residual-in_err-found.ensures.1 in
    rw (p.1, p.2) (inr (inr (inr c.in_err-found.ensures.refused), refl))

pub returns-in_err-write_whole : goal.returns-in_err-write_whole
returns-in_err-write_whole g c =
    let p = err_from_is_err_and c.from_residual-in_err-write_whole.result c.from_residual-in_err-write_whole.ensures.1 in
    let found = c.in_ok-found.ensures.whole in
    let verdict = c.verdict-line.ensures.verdict (view_of_runs c.in_ok-map.map) found.0 found.2 in
    let broken = rw c.as_slice.ensures.value at c.in_err-write_whole.ensures in
    rw (p.1, p.2) (inl (refl, (_, _, (_, _, c.in_ok-map.ensures.made, found.1, verdict), broken)))

pub returns : goal.returns
returns g c =
    let found = c.in_ok-found.ensures.whole in
    let verdict = c.verdict-line.ensures.verdict (view_of_runs c.in_ok-map.map) found.0 found.2 in
    let taken = rw c.as_slice.ensures.value at c.in_ok-write_whole.ensures in
    (_, (_, _, c.in_ok-map.ensures.made, found.1, verdict), taken)
