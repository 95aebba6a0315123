use Rattle.std.proofs.Common.{◌≡◌, ◌∙◌, Err, ap, rules}
use Rattle.std.proofs.lemmas.Result.{err_from_is_err_and}
use Rattle.program_files.specs.Troubles.{run_trouble}
use Rattle.hart_sim.specs.Reports.{DoesLine, RefusesLine, StarvesLine}
use Rattle.monitor_cli.specs.Runs.{compared, not_told, unfinished, unmeasured}
use Rattle.monitor_cli.proofs.Ends.{stops, went_well, went_wrong}
use Rattle.monitor_cli.proofs.run.run_expecting.Goals as goal

pub returns-in_err-map_err : goal.returns-in_err-map_err
returns-in_err-map_err g c =
    let p = err_from_is_err_and c.from_residual.result c.from_residual.ensures.1 in
    let f = went_wrong _ _ c.compare_lines-lines.result.end c.in_err-map_err.ensures.cases in
    let told : p.0 ≡ run_trouble c.args.trace f.0 = search (rules, p.2, f.2) in
    let kept = c.requires.kept in
    let e = c.compare_lines-lines.ensures in
    let ended = f.1 in
    rw (p.1, told)
    (unfinished _ f.0
    (stops DoesLine RefusesLine StarvesLine _ _ _ _ _ _ f.0
    (λ n is. e.line kept n (ended ∙ ap (λ f. Err f) is)) (λ is. e.too_long kept (ended ∙ ap (λ f. Err f) is)) (λ is. e.read kept (ended ∙ ap (λ f. Err f) is))
    (λ is. e.write kept (ended ∙ ap (λ f. Err f) is))
    (λ is. e.memory kept (ended ∙ ap (λ f. Err f) is)))
    (rw ended at e.reads) (rw ended at e.writes))

pub returns-in_err-measure_where : goal.returns-in_err-measure_where
returns-in_err-measure_where g c =
    let p = err_from_is_err_and c.from_residual-in_err-measure_where.result c.from_residual-in_err-measure_where.ensures.1 in
    let ended = went_well tt c.compare_lines-lines.result.end c.in_ok-map_err.ensures.cases in
    let e = c.compare_lines-lines.ensures in
    let w = c.in_err-measure_where.ensures in
    let b = w.broken in
    let writes = rw ended at e.writes in
    rw (p.1, p.2)
    (unmeasured _ _ _ b.0 b.2 w.asked (rw ended at e.all c.requires.kept) b.1 b.3 b.4.part (rw ended at e.reads) (rw (writes.0, writes.1) at b.4.fails))

pub returns-in_err-status : goal.returns-in_err-status
returns-in_err-status g c =
    let p = err_from_is_err_and c.from_residual-in_err-status.result c.from_residual-in_err-status.ensures.1 in
    let ended = went_well tt c.compare_lines-lines.result.end c.in_ok-map_err.ensures.cases in
    let e = c.compare_lines-lines.ensures in
    let before = rw ended at e.writes in
    let m = c.in_ok-measure_where.ensures in
    let b = c.in_err-status.ensures.broken in
    rw (p.1, p.2)
    (not_told _ _ _ b.0 b.2 (rw (ended, b.1) at e.all c.requires.kept) m.measured b.3.part (rw ended at e.reads)
    (rw (m.well.0 ∙ before.0, m.well.1 ∙ before.1) at b.3.fails))

pub returns : goal.returns
returns g c =
    let ended = went_well tt c.compare_lines-lines.result.end c.in_ok-map_err.ensures.cases in
    let e = c.compare_lines-lines.ensures in
    let before = rw ended at e.writes in
    let m = c.in_ok-measure_where.ensures in
    let w = c.in_ok-status.ensures in
    rw c.noted.ensures (compared _ _ _ _ _ (rw ended at e.all c.requires.kept) m.measured w.told (rw ended at e.reads)
    (w.well.0 ∙ m.well.0 ∙ before.0, w.well.1 ∙ m.well.1 ∙ before.1))
