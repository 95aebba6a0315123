use Rattle.std.proofs.lemmas.Result.{err_from_is_err_and}
use Rattle.text_lines.proofs.Writings.{breaks_after, breaks_before, takes_then}
use Rattle.map_table.proofs.register_rows.print_row.Goals as goal

pub returns-in_err-write_whole : goal.returns-in_err-write_whole
returns-in_err-write_whole g c =
    rw (err_from_is_err_and c.from_residual.result c.from_residual.ensures.1).1
    (breaks_before g.W.Sink.contents g.W.Sink.failures g.W.Sink.stalls c.args.row.now.back (rw c.as_slice.ensures.value at c.in_err-write_whole.ensures))

pub returns-in_err-write_whole-2 : goal.returns-in_err-write_whole-2
returns-in_err-write_whole-2 g c =
    let front = rw c.as_slice.ensures.value at c.in_ok-write_whole.ensures in
    let back = rw c.as_slice-2.ensures.value at c.in_err-write_whole-2.ensures in
    rw (err_from_is_err_and c.from_residual-in_err-write_whole-2.result c.from_residual-in_err-write_whole-2.ensures.1).1
    (breaks_after g.W.Sink.contents g.W.Sink.failures g.W.Sink.stalls front back)

pub returns : goal.returns
returns g c =
    let front = rw c.as_slice.ensures.value at c.in_ok-write_whole.ensures in
    let back = rw c.as_slice-2.ensures.value at c.in_ok-write_whole-2.ensures in
    takes_then g.W.Sink.contents g.W.Sink.failures g.W.Sink.stalls front back
