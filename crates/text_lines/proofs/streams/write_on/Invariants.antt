use Rattle.std.proofs.Common.{length, take, ◌-◌, ◌≤◌}
use Rattle.text_lines.specs.Writings.{TakesAll, writing}
use Rattle.text_lines.proofs.streams.write_on.Given as goal

abbrev pub invariant-loop-done : goal.invariant-loop-done
invariant-loop-done g l = record {
  within : l.done ≤ length l.bytes;
  taken : TakesAll (take l.done l.bytes) (writing g.W.Sink.contents g.W.Sink.failures g.W.Sink.stalls l.initial.sink l.sink);
}

abbrev pub decreases-loop-done : goal.decreases-loop-done
decreases-loop-done g l = length l.bytes - l.done
