use Rattle.std.proofs.Common.{ℕ, List}
use Rattle.text_lines.specs.Writings.{TakesAll, writing}
use Rattle.monitor_cli.specs.Measurements.{AreMeasures}
use Rattle.monitor_cli.proofs.measurements.print_measures.Given as goal

abbrev pub invariant-loop-i : goal.invariant-loop-i
invariant-loop-i g l =
    (text : List ℕ) × AreMeasures l.table.table l.i text
    × TakesAll text (writing g.W.Sink.contents g.W.Sink.failures g.W.Sink.stalls l.initial.out l.out)
