use Rattle.std.proofs.Common.{◌≡◌, ℕ, false, ◌-◌, List, length}
use Rattle.text_lines.proofs.LinesRead.{Gathers}
use Rattle.text_lines.proofs.lines.LineReader.next_line.Given as goal

abbrev pub invariant-reads : goal.invariant-reads
invariant-reads g l = record {
  taken : l.self.taken ≡ 0;
  number : l.self.number ≡ l.fn.self.number;
  limit : l.self.limit ≡ l.fn.self.limit;
  ended : l.self.ended ≡ false;
  failures : g.R.Source.failures l.source ≡ g.R.Source.failures l.fn.source;
  gathered : (bytes : List ℕ) × Gathers l.fn.self l.self (g.R.Source.remaining l.fn.source) (g.R.Source.remaining l.source) bytes;
}

abbrev pub decreases-reads : goal.decreases-reads
decreases-reads g l = 1024 - length l.self.buffer
