use Rattle.std.proofs.Common.{◌≡◌, ◌∙◌, Err, ap, rules}
use Rattle.std.proofs.lemmas.Result.{err_from_is_err_and}
use Rattle.hart_trace.specs.Answers.{answered_by, is_no_access}
use Rattle.program_files.specs.Troubles.{run_trouble}
use Rattle.monitor_cli.specs.Judge.{compared, not_told, unfinished}
use Rattle.monitor_cli.proofs.Ends.{stops, went_well, went_wrong}
use Rattle.monitor_cli.proofs.judge.judge_expecting.Goals as goal

pub returns-in_err-map_err : goal.returns-in_err-map_err
returns-in_err-map_err g c =
    let p = err_from_is_err_and c.from_residual.result c.from_residual.ensures.1 in
    let f = went_wrong _ _ c.compare_judged-first.result.end c.in_err-map_err.ensures.cases in
    let told : p.0 ≡ run_trouble c.args.trace f.0 = search (rules, p.2, f.2) in
    let e = c.compare_judged-first.ensures in
    rw (p.1, told)
    (unfinished f.0
    (stops (answered_by (g.J.AccessJudge.outcomes c.args.by.now)) is_no_access (λ old line new. ⊥) tt tt _ _ _ _ f.0
    (λ n is. e.line n (f.1 ∙ ap (λ f. Err f) is)) (λ is. e.too_long (f.1 ∙ ap (λ f. Err f) is)) (λ is. e.read (f.1 ∙ ap (λ f. Err f) is))
    (λ is. e.write (f.1 ∙ ap (λ f. Err f) is))
    (λ is. absurd (e.no_memory (f.1 ∙ ap (λ f. Err f) is))))
    (rw f.1 at e.reads) (rw f.1 at e.writes))

pub returns-in_err-status : goal.returns-in_err-status
returns-in_err-status g c =
    let p = err_from_is_err_and c.from_residual-in_err-status.result c.from_residual-in_err-status.ensures.1 in
    let ended = went_well tt c.compare_judged-first.result.end c.in_ok-map_err.ensures.cases in
    let e = c.compare_judged-first.ensures in
    let b = c.in_err-status.ensures.broken in
    let writes = rw ended at e.writes in
    rw (p.1, p.2) (not_told _ b.0 b.2 (rw (ended, b.1) at e.all) b.3.part (rw ended at e.reads) (rw (writes.0, writes.1) at b.3.fails))

pub returns : goal.returns
returns g c =
    let ended = went_well tt c.compare_judged-first.result.end c.in_ok-map_err.ensures.cases in
    let e = c.compare_judged-first.ensures in
    let w = c.in_ok-status.ensures.well in
    let before = rw ended at e.writes in
    rw c.noted.ensures (compared _ _ _ (rw ended at e.all) c.in_ok-status.ensures.told (rw ended at e.reads)
    (w.0 ∙ before.0, w.1 ∙ before.1))
