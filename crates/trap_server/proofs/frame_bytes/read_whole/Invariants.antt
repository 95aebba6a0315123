use Rattle.std.proofs.Common.{◌≡◌, ◌-◌, ◌≤◌, length, take}
use Rattle.std.specs.Io.KnownBytes.{Consumes}
use Rattle.trap_server.proofs.frame_bytes.read_whole.Given as goal

abbrev pub invariant-loop-done : goal.invariant-loop-done
invariant-loop-done g l = record {
  within : l.done ≤ length l.buffer;
  size : length l.buffer ≡ length l.fn.buffer;
  failures : g.R.Source.failures l.source ≡ g.R.Source.failures l.fn.source;
  consumed : Consumes (g.R.Source.remaining l.fn.source) (g.R.Source.remaining l.source) (take l.done l.buffer);
}

abbrev pub decreases-loop-done : goal.decreases-loop-done
decreases-loop-done g l = length l.buffer - l.done
