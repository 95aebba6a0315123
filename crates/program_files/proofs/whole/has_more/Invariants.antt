use Rattle.std.proofs.Common.{◌≡◌, ℕ, ◌+◌, ◌-◌, List, length}
use Rattle.std.specs.Io.KnownBytes.{Consumes}
use Rattle.program_files.proofs.whole.has_more.Given as goal

abbrev pub invariant-loop-count : goal.invariant-loop-count
invariant-loop-count g l = record {
  well : g.R.Source.failures l.source ≡ g.R.Source.failures l.initial.source;
  read : (bytes : List ℕ) × Consumes (g.R.Source.remaining l.initial.source) (g.R.Source.remaining l.source) bytes × (length bytes ≡ l.count);
}

abbrev pub decreases-loop-count : goal.decreases-loop-count
decreases-loop-count g l = l.most + 1 - l.count
