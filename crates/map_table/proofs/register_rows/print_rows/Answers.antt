use Rattle.std.proofs.Common.{ℕ, ◌+◌, ◌-◌, ◌≡◌, ◌∙◌, ◌++◌, [], ap, sym, append_assoc, arith}
use Rattle.std.proofs.lemmas.Result.{err_from_is_err_and}
use Rattle.text_lines.proofs.Writings.{breaks_within, takes_none, takes_then}
use Rattle.map_table.specs.RegisterRows.{rows_text}
use Rattle.map_table.proofs.Rowed.{rows_text-first}
use Rattle.map_table.proofs.register_rows.print_rows.Goals as goal

none_less : (n : ℕ) → n - 0 ≡ n
none_less n = omega arith

pub loop-i-init : goal.loop-i-init
loop-i-init g c = (
  [],
  ap (rows_text (g.R.Rows.row_text c.args.rows.now) 0)
      (none_less c.args.count),
  takes_none g.W.Sink.contents g.W.Sink.failures g.W.Sink.stalls _,
)

pub loop-i-preserved : goal.loop-i-preserved
loop-i-preserved g c =
    let i = c.loop-i.i in
    let row = g.R.Rows.row_text c.args.rows.now in
    let w = c.loop-i.invariant in (
      w.0 ++ row i,
      append_assoc w.0 _ _ ∙ ap (λ x. w.0 ++ x) (sym (rows_text-first row i c.args.count c.loop-i-test.true)) ∙ w.1,
      takes_then g.W.Sink.contents g.W.Sink.failures g.W.Sink.stalls w.2 (rw c.row-row.ensures at c.in_ok-print_row.ensures),
    )

pub returns-in_err-print_row : goal.returns-in_err-print_row
returns-in_err-print_row g c =
    let i = c.loop-i.i in
    let row = g.R.Rows.row_text c.args.rows.now in
    let w = c.loop-i.invariant in
    let whole = ap (λ x. w.0 ++ x) (sym (rows_text-first row i c.args.count c.loop-i-test.true)) ∙ w.1 in
    rw (err_from_is_err_and c.from_residual.result c.from_residual.ensures.1).1
    (breaks_within g.W.Sink.contents g.W.Sink.failures g.W.Sink.stalls (rows_text row (i + 1) (c.args.count - (i + 1))) whole w.2
    (rw c.row-row.ensures at c.in_err-print_row.ensures))
