use Rattle.std.proofs.Common.{◌≡◌, ◌+◌, ◌-◌, length}
use Rattle.std.specs.Io.KnownBytes.{Consumes}
use Rattle.program_files.proofs.whole.read_whole.Given as goal

abbrev pub invariant-loop-piece : goal.invariant-loop-piece
invariant-loop-piece g l = record {
  well : g.R.Source.failures l.source ≡ g.R.Source.failures l.initial.source;
  read : Consumes (g.R.Source.remaining l.initial.source) (g.R.Source.remaining l.source) l.bytes.items;
}

abbrev pub decreases-loop-piece : goal.decreases-loop-piece
decreases-loop-piece g l = l.most + 1 - length l.bytes.items
