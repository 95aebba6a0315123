use Rattle.std.proofs.Common.{◌≡◌, Err, ◌∙◌, ap, rules}
use Rattle.std.proofs.lemmas.Result.{err_from_is_err_and}
use Rattle.hart_sim.specs.Reports.{DoesLine, RefusesLine, StarvesLine}
use Rattle.program_files.specs.Troubles.{run_trouble}
use Rattle.monitor_cli.specs.Runs as commands
use Rattle.monitor_cli.proofs.Ends.{stops, went_well, went_wrong}
use Rattle.monitor_cli.proofs.run.run_plainly.Goals as goal

pub returns-in_err-map_err : goal.returns-in_err-map_err
returns-in_err-map_err g c =
    let p = err_from_is_err_and c.from_residual.result c.from_residual.ensures.1 in
    let f = went_wrong _ _ c.run_lines.result c.in_err-map_err.ensures.cases in
    let told : p.0 ≡ run_trouble c.args.trace f.0 = search (rules, p.2, f.2) in
    let e = c.run_lines.ensures in
    let kept = c.requires.kept in
    rw (p.1, told)
    (commands.RunsTrace.until c.run_lines.new.machine f.0
    (stops DoesLine RefusesLine StarvesLine _ _ _ _ _ _ f.0
    (λ n is. e.line kept n (f.1 ∙ ap (λ f. Err f) is)) (λ is. e.too_long kept (f.1 ∙ ap (λ f. Err f) is)) (λ is. e.read kept (f.1 ∙ ap (λ f. Err f) is))
    (λ is. e.write kept (f.1 ∙ ap (λ f. Err f) is)) (λ is. e.memory kept (f.1 ∙ ap (λ f. Err f) is)))
    (rw f.1 at e.reads) (rw f.1 at e.writes))

pub returns-in_err-measure_where : goal.returns-in_err-measure_where
returns-in_err-measure_where g c =
    let p = err_from_is_err_and c.from_residual-in_err-measure_where.result c.from_residual-in_err-measure_where.ensures.1 in
    let ended = went_well tt c.run_lines.result c.in_ok-map_err.ensures.cases in
    let e = c.run_lines.ensures in
    let w = c.in_err-measure_where.ensures in
    let b = w.broken in
    let writes = rw ended at e.writes in
    rw (p.1, p.2)
    (commands.RunsTrace.not_measured c.run_lines.new.machine _ b.0 b.2 w.asked (rw ended at e.all c.requires.kept) b.1 b.3 b.4.part (rw ended at e.reads)
    (rw (writes.0, writes.1) at b.4.fails))

pub returns : goal.returns
returns g c =
    let ended = went_well tt c.run_lines.result c.in_ok-map_err.ensures.cases in
    let e = c.run_lines.ensures in
    let m = c.in_ok-measure_where.ensures in
    let before = rw ended at e.writes in
    commands.RunsTrace.to_its_end c.run_lines.new.machine _ (rw ended at e.all c.requires.kept) m.measured (rw ended at e.reads)
    (m.well.0 ∙ before.0, m.well.1 ∙ before.1)
