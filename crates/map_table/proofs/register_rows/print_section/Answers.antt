use Rattle.std.proofs.lemmas.Result.{err_from_is_err_and}
use Rattle.text_lines.proofs.Writings.{breaks_after, breaks_before, takes_then}
use Rattle.map_table.specs.RegisterRows.{rows_text}
use Rattle.map_table.proofs.register_rows.print_section.Goals as goal

pub returns-in_err-write_whole : goal.returns-in_err-write_whole
returns-in_err-write_whole g c =
    rw (err_from_is_err_and c.from_residual.result c.from_residual.ensures.1).1
    (breaks_before g.W.Sink.contents g.W.Sink.failures g.W.Sink.stalls (rows_text (g.R.Rows.row_text c.args.rows.now) 0 c.args.count)
    c.in_err-write_whole.ensures)

pub returns-in_err-print_rows : goal.returns-in_err-print_rows
returns-in_err-print_rows g c =
    rw (err_from_is_err_and c.from_residual-in_err-print_rows.result c.from_residual-in_err-print_rows.ensures.1).1
    (breaks_after g.W.Sink.contents g.W.Sink.failures g.W.Sink.stalls c.in_ok-write_whole.ensures c.in_err-print_rows.ensures)

pub returns : goal.returns
returns g c = takes_then g.W.Sink.contents g.W.Sink.failures g.W.Sink.stalls c.in_ok-write_whole.ensures c.in_ok-print_rows.ensures
