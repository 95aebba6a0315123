use Rattle.std.proofs.lemmas.Result.{err_from_is_err_and}
use Rattle.monitor_cli.proofs.RunEnds.{measured, unmeasured}
use Rattle.monitor_cli.proofs.measurements.measure_where.Goals as goal

pub returns-then-not-measure-clause-measured : goal.returns-then-not-measure-clause-measured
returns-then-not-measure-clause-measured g c = unmeasured c.args.measure c.args.machine.now _ c.if-not-measure.true

pub returns-in_err-print_measures-clause-broken : goal.returns-in_err-print_measures-clause-broken
returns-in_err-print_measures-clause-broken g c =
    let p = err_from_is_err_and c.from_residual.result c.from_residual.ensures.1 in
    rw p.1 (rw c.table.ensures.kept at c.in_err-print_measures.ensures.broken)

pub returns-clause-measured : goal.returns-clause-measured
returns-clause-measured g c =
    let w = rw c.table.ensures.kept at c.in_ok-print_measures.ensures.written in
    measured c.args.measure c.args.machine.now _ _ c.if-not-measure.false (w.0, w.1, w.2.whole)

pub returns-clause-well : goal.returns-clause-well
returns-clause-well g c = c.in_ok-print_measures.ensures.written.2.well
