use Rattle.std.proofs.Common.{◌≡◌, ◌+◌, ◌-◌, ◌^◌, ◌≤◌, decimal}
use Rattle.text_lines.specs.LineReaders.{most_of, number_of}
use Rattle.text_lines.specs.Counters.{digits_of}
use Rattle.text_lines.proofs.Looped.{Progress}
use Rattle.text_lines.proofs.line_loop.interpret_lines.Given as goal

abbrev pub invariant-lines : goal.invariant-lines
invariant-lines g l = record {
  reads : g.R.Source.failures l.source ≡ g.R.Source.failures l.fn.source;
  writes : g.W.Sink.failures l.sink ≡ g.W.Sink.failures l.fn.sink;
  stalls : g.W.Sink.stalls l.sink ≡ g.W.Sink.stalls l.fn.sink;
  progress : g.I.Interpreter.keeps l.fn.interpreter → Progress g.I.Interpreter.does l.fn.interpreter l.interpreter l.reader l.count
      (g.R.Source.remaining l.fn.source) (g.R.Source.remaining l.source) (g.W.Sink.contents l.fn.sink) (g.W.Sink.contents l.sink);
  few : l.count ≤ number_of l.reader;
  limit : most_of l.reader ≡ 2 ^ 40;
  number : digits_of l.number ≡ decimal (l.count + 1);
  len : l.number.len ≤ 20;
  keeps : g.I.Interpreter.keeps l.fn.interpreter → g.I.Interpreter.keeps l.interpreter;
}

abbrev pub decreases-lines : goal.decreases-lines
decreases-lines g l = 2 ^ 40 - number_of l.reader
