use Rattle.std.proofs.Common.{◌≡◌, ◌+◌, List, ℕ, ◌++◌, length, map}
use Rattle.text_lines.specs.Writings.{TakesAll, writing}
use Rattle.map_text.specs.Plans.{entries_text}
use Rattle.map_text.proofs.plan.print_entries.Given as goal

abbrev pub invariant-loop-left : goal.invariant-loop-left
invariant-loop-left g l = record {
  room : length l.buffer ≡ 14720;
  counted : l.number + length l.left ≡ l.first + length l.entries;
  taken : (done : List ℕ) × (done ++ entries_text l.xlen l.number (map g.E.ListedEntry.listed l.left) ≡ entries_text l.xlen l.first
      (map g.E.ListedEntry.listed l.entries))
      × TakesAll done (writing g.W.Sink.contents g.W.Sink.failures g.W.Sink.stalls l.initial.out l.out);
}

abbrev pub decreases-loop-left : goal.decreases-loop-left
decreases-loop-left g l = length l.left
