use Rattle.std.proofs.Common.{◌≡◌, ℕ, List, ◌++◌, ◌-◌}
use Rattle.text_lines.specs.Writings.{TakesAll, writing}
use Rattle.map_table.specs.RegisterRows.{rows_text}
use Rattle.map_table.proofs.register_rows.print_rows.Given as goal

abbrev pub invariant-loop-i : goal.invariant-loop-i
invariant-loop-i g l =
    (done : List ℕ) × (done ++ rows_text (g.R.Rows.row_text l.rows) l.i (l.count - l.i) ≡ rows_text (g.R.Rows.row_text l.rows) 0 l.count)
    × TakesAll done (writing g.W.Sink.contents g.W.Sink.failures g.W.Sink.stalls l.initial.out l.out)
