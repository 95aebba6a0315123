use Rattle.std.proofs.Common.{◌∙◌, ap, map, sym}
use Rattle.std.proofs.lemmas.List.{length-map}
use Rattle.std.proofs.lemmas.Result.{err_from_is_err_and}
use Rattle.text_lines.proofs.Writings.{breaks_after, breaks_before, takes_then}
use Rattle.map_text.specs.Plans.{entries_text}
use Rattle.map_text.specs.Texts.{count_text}
use Rattle.map_text.proofs.plan.print_list.Goals as goal

pub returns-in_err-write_whole : goal.returns-in_err-write_whole
returns-in_err-write_whole g c =
    let same = ap count_text (sym (length-map c.args.entries.now g.E.ListedEntry.listed)) in
    let count = rw (c.as_slice.ensures.value ∙ c.count_line-count.ensures ∙ same) at c.in_err-write_whole.ensures in
    rw (err_from_is_err_and c.from_residual.result c.from_residual.ensures.1).1
    (breaks_before g.W.Sink.contents g.W.Sink.failures g.W.Sink.stalls (entries_text c.args.xlen c.args.first
    (map g.E.ListedEntry.listed c.args.entries.now)) count)

pub returns-in_err-print_entries : goal.returns-in_err-print_entries
returns-in_err-print_entries g c =
    let same = ap count_text (sym (length-map c.args.entries.now g.E.ListedEntry.listed)) in
    let count = rw (c.as_slice.ensures.value ∙ c.count_line-count.ensures ∙ same) at c.in_ok-write_whole.ensures in
    rw (err_from_is_err_and c.from_residual-in_err-print_entries.result c.from_residual-in_err-print_entries.ensures.1).1
    (breaks_after g.W.Sink.contents g.W.Sink.failures g.W.Sink.stalls count c.in_err-print_entries.ensures)

pub returns : goal.returns
returns g c =
    let same = ap count_text (sym (length-map c.args.entries.now g.E.ListedEntry.listed)) in
    let count = rw (c.as_slice.ensures.value ∙ c.count_line-count.ensures ∙ same) at c.in_ok-write_whole.ensures in
    takes_then g.W.Sink.contents g.W.Sink.failures g.W.Sink.stalls count c.in_ok-print_entries.ensures
