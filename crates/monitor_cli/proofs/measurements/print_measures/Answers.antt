use Rattle.std.proofs.Common.{[], ◌++◌, ◌+◌, arith}
use Rattle.std.proofs.lemmas.Result.{err_from_is_err_and}
use Rattle.text_lines.proofs.Writings.{breaks_after, takes_none, takes_then}
use Rattle.monitor_cli.specs.Measurements.{none, more}
use Rattle.monitor_cli.proofs.measurements.print_measures.Goals as goal

pub loop-i-init : goal.loop-i-init
loop-i-init g c = ([], none, takes_none g.W.Sink.contents g.W.Sink.failures g.W.Sink.stalls _)

pub loop-i-preserved : goal.loop-i-preserved
loop-i-preserved g c =
    let w = c.loop-i.invariant in
    let m = c.in_ok-print_measure.ensures in
    (w.0 ++ m.0, more c.loop-i.i w.0 m.0 w.1 m.1, takes_then g.W.Sink.contents g.W.Sink.failures g.W.Sink.stalls w.2 m.2)

pub returns-in_err-print_measure-clause-broken : goal.returns-in_err-print_measure-clause-broken
returns-in_err-print_measure-clause-broken g c =
    let w = c.loop-i.invariant in
    let m = c.in_err-print_measure.ensures in
    rw (err_from_is_err_and c.from_residual.result c.from_residual.ensures.1).1
    (c.loop-i.i + 1, omega arith, w.0 ++ m.0, more c.loop-i.i w.0 m.0 w.1 m.1, breaks_after g.W.Sink.contents g.W.Sink.failures g.W.Sink.stalls w.2 m.2)
