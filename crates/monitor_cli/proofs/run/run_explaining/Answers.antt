use Rattle.std.proofs.Common.{◌≡◌, ◌∙◌, Err, ap, rules}
use Rattle.std.proofs.lemmas.Result.{err_from_is_err_and}
use Rattle.program_files.specs.Troubles.{run_trouble}
use Rattle.hart_sim.specs.Reports.{DoesLine, RefusesLine, StarvesLine}
use Rattle.trace_answers.specs.Explained.{explaining}
use Rattle.monitor_cli.proofs.Ends.{stops, went_well, went_wrong}
use Rattle.monitor_cli.specs.Runs.{explained, not_all_measured, not_summed_up, stopped}
use Rattle.monitor_cli.proofs.run.run_explaining.Goals as goal

pub returns-in_err-map_err : goal.returns-in_err-map_err
returns-in_err-map_err g c =
    let p = err_from_is_err_and c.from_residual.result c.from_residual.ensures.1 in
    let f = went_wrong _ _ c.explain_run-machine.result.end c.in_err-map_err.ensures.cases in
    let told : p.0 ≡ run_trouble c.args.trace f.0 = search (rules, p.2, f.2) in
    let kept = c.requires.kept in
    let e = c.explain_run-machine.ensures in
    let ended = f.1 in
    rw (p.1, told)
    (stopped _ f.0
    (stops (explaining DoesLine) RefusesLine StarvesLine _ _ _ _ _ _ f.0
    (λ n is. e.line kept n (ended ∙ ap (λ f. Err f) is)) (λ is. e.too_long kept (ended ∙ ap (λ f. Err f) is)) (λ is. e.read kept (ended ∙ ap (λ f. Err f) is))
    (λ is. e.write kept (ended ∙ ap (λ f. Err f) is))
    (λ is. e.memory kept (ended ∙ ap (λ f. Err f) is)))
    (rw ended at e.reads) (rw ended at e.writes))

pub returns-in_err-measure_where : goal.returns-in_err-measure_where
returns-in_err-measure_where g c =
    let p = err_from_is_err_and c.from_residual-in_err-measure_where.result c.from_residual-in_err-measure_where.ensures.1 in
    let ended = went_well tt c.explain_run-machine.result.end c.in_ok-map_err.ensures.cases in
    let e = c.explain_run-machine.ensures in
    let w = c.in_err-measure_where.ensures in
    let b = w.broken in
    let writes = rw ended at e.writes in
    rw (p.1, p.2)
    (not_all_measured _ _ b.0 b.2 w.asked (rw ended at e.all c.requires.kept) b.1 b.3 b.4.part (rw ended at e.reads) (rw (writes.0, writes.1) at b.4.fails))

pub returns-in_err-print_summary : goal.returns-in_err-print_summary
returns-in_err-print_summary g c =
    let p = err_from_is_err_and c.from_residual-in_err-print_summary.result c.from_residual-in_err-print_summary.ensures.1 in
    let ended = went_well tt c.explain_run-machine.result.end c.in_ok-map_err.ensures.cases in
    let e = c.explain_run-machine.ensures in
    let before = rw ended at e.writes in
    let m = c.in_ok-measure_where.ensures in
    let s = c.in_err-print_summary.ensures in
    rw (p.1, p.2)
    (not_summed_up _ _ _ s.0 (rw ended at e.all c.requires.kept) m.measured s.1.part (rw ended at e.reads)
    (rw (m.well.0 ∙ before.0, m.well.1 ∙ before.1) at s.1.fails))

pub returns : goal.returns
returns g c =
    let ended = went_well tt c.explain_run-machine.result.end c.in_ok-map_err.ensures.cases in
    let e = c.explain_run-machine.ensures in
    let before = rw ended at e.writes in
    let m = c.in_ok-measure_where.ensures in
    let s = c.in_ok-print_summary.ensures in
    explained _ _ _ s.0 (rw ended at e.all c.requires.kept) m.measured s.1.whole (rw ended at e.reads)
    (s.1.well.0 ∙ m.well.0 ∙ before.0, s.1.well.1 ∙ m.well.1 ∙ before.1)
