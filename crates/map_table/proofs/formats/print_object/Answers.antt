use Rattle.std.proofs.Common.{ℕ, List, ◌++◌, Option, codes, length, map, sym}
use Rattle.std.proofs.lemmas.List.{length-map}
use Rattle.std.proofs.lemmas.Result.{err_from_is_err_and}
use Rattle.pmp_encoding.specs.declared.limit.Limit.{Limit}
use Rattle.pmp_encoding.specs.declared.xlen.Xlen.{Xlen}
use Rattle.map_text.specs.declared.listed_entry.ChainedEntry.{ChainedEntry}
use Rattle.text_lines.specs.Writings.{Breaks, TakesAll, writing}
use Rattle.map_table.specs.RegisterRows.{rows_text}
use Rattle.map_table.specs.JsonTexts.{json_entries_begin, json_entry_row, json_map_begin, json_name_row, json_word_row, json_words_begin}
use Rattle.map_table.proofs.Four.{all_four, in_first, in_second, in_third, in_fourth}
use Rattle.map_table.proofs.formats.print_object.Goals as goal

-- the text before the entries, and their rows
abbrev listed_text : Xlen → Limit → ℕ → Option ℕ → List ChainedEntry → List ℕ
listed_text xlen limit first without_tor entries =
    json_entries_begin xlen limit first without_tor (length entries) ++ rows_text (json_entry_row xlen first entries) 0 (length entries)

pub returns-in_err-print_section : goal.returns-in_err-print_section
returns-in_err-print_section g c =
    let name = c.args.name.now in
    let entries = map g.E.ListedEntry.listed c.args.entries.now in
    let xlen = c.args.xlen in
    let limit = c.args.limit in
    let start = c.args.first in
    let first : Breaks (json_map_begin ++ rows_text (json_name_row name) 0 (length name))
    (writing g.W.Sink.contents g.W.Sink.failures g.W.Sink.stalls c.args.out.now c.print_section.new.out) = c.in_err-print_section.ensures in
    rw (err_from_is_err_and c.from_residual.result c.from_residual.ensures.1).1
    (in_first g.W.Sink.contents g.W.Sink.failures g.W.Sink.stalls (json_map_begin ++ rows_text (json_name_row name) 0 (length name))
    (listed_text xlen limit start c.args.without_tor entries)
    (json_words_begin ++ rows_text (json_word_row xlen start entries) 0 c.args.count) (codes "\n  ]\n}\n") first)

pub returns-in_err-print_titled : goal.returns-in_err-print_titled
returns-in_err-print_titled g c =
    let name = c.args.name.now in
    let entries = map g.E.ListedEntry.listed c.args.entries.now in
    let xlen = c.args.xlen in
    let limit = c.args.limit in
    let start = c.args.first in
    let first : TakesAll (json_map_begin ++ rows_text (json_name_row name) 0 (length name))
    (writing g.W.Sink.contents g.W.Sink.failures g.W.Sink.stalls c.args.out.now c.print_section.new.out) = c.in_ok-print_section.ensures in
    let second : Breaks (listed_text xlen limit start c.args.without_tor entries)
    (writing g.W.Sink.contents g.W.Sink.failures g.W.Sink.stalls c.print_section.new.out c.print_titled.new.out) =
    rw (sym (length-map c.args.entries.now g.E.ListedEntry.listed)) at (rw c.hart-hart.ensures at
    (rw c.as_slice.ensures.value at (rw c.without_tor-without_tor.ensures at (rw c.as_slice-2.ensures.value at c.in_err-print_titled.ensures)))) in
    rw (err_from_is_err_and c.from_residual-in_err-print_titled.result c.from_residual-in_err-print_titled.ensures.1).1
    (in_second g.W.Sink.contents g.W.Sink.failures g.W.Sink.stalls (json_map_begin ++ rows_text (json_name_row name) 0 (length name))
    (listed_text xlen limit start c.args.without_tor entries)
    (json_words_begin ++ rows_text (json_word_row xlen start entries) 0 c.args.count) (codes "\n  ]\n}\n") first second)

pub returns-in_err-print_section-2 : goal.returns-in_err-print_section-2
returns-in_err-print_section-2 g c =
    let name = c.args.name.now in
    let entries = map g.E.ListedEntry.listed c.args.entries.now in
    let xlen = c.args.xlen in
    let limit = c.args.limit in
    let start = c.args.first in
    let first : TakesAll (json_map_begin ++ rows_text (json_name_row name) 0 (length name))
    (writing g.W.Sink.contents g.W.Sink.failures g.W.Sink.stalls c.args.out.now c.print_section.new.out) = c.in_ok-print_section.ensures in
    let second : TakesAll (listed_text xlen limit start c.args.without_tor entries)
    (writing g.W.Sink.contents g.W.Sink.failures g.W.Sink.stalls c.print_section.new.out c.print_titled.new.out) =
    rw (sym (length-map c.args.entries.now g.E.ListedEntry.listed)) at (rw c.hart-hart.ensures at
    (rw c.as_slice.ensures.value at (rw c.without_tor-without_tor.ensures at (rw c.as_slice-2.ensures.value at c.in_ok-print_titled.ensures)))) in
    let third : Breaks (json_words_begin ++ rows_text (json_word_row xlen start entries) 0 c.args.count)
    (writing g.W.Sink.contents g.W.Sink.failures g.W.Sink.stalls c.print_titled.new.out c.print_section-2.new.out) =
    c.in_err-print_section-2.ensures in
    rw (err_from_is_err_and c.from_residual-in_err-print_section-2.result c.from_residual-in_err-print_section-2.ensures.1).1
    (in_third g.W.Sink.contents g.W.Sink.failures g.W.Sink.stalls (json_map_begin ++ rows_text (json_name_row name) 0 (length name))
    (listed_text xlen limit start c.args.without_tor entries)
    (json_words_begin ++ rows_text (json_word_row xlen start entries) 0 c.args.count) (codes "\n  ]\n}\n") first second third)

pub returns-in_err-write_whole : goal.returns-in_err-write_whole
returns-in_err-write_whole g c =
    let name = c.args.name.now in
    let entries = map g.E.ListedEntry.listed c.args.entries.now in
    let xlen = c.args.xlen in
    let limit = c.args.limit in
    let start = c.args.first in
    let first : TakesAll (json_map_begin ++ rows_text (json_name_row name) 0 (length name))
    (writing g.W.Sink.contents g.W.Sink.failures g.W.Sink.stalls c.args.out.now c.print_section.new.out) = c.in_ok-print_section.ensures in
    let second : TakesAll (listed_text xlen limit start c.args.without_tor entries)
    (writing g.W.Sink.contents g.W.Sink.failures g.W.Sink.stalls c.print_section.new.out c.print_titled.new.out) =
    rw (sym (length-map c.args.entries.now g.E.ListedEntry.listed)) at (rw c.hart-hart.ensures at
    (rw c.as_slice.ensures.value at (rw c.without_tor-without_tor.ensures at (rw c.as_slice-2.ensures.value at c.in_ok-print_titled.ensures)))) in
    let third : TakesAll (json_words_begin ++ rows_text (json_word_row xlen start entries) 0 c.args.count)
    (writing g.W.Sink.contents g.W.Sink.failures g.W.Sink.stalls c.print_titled.new.out c.print_section-2.new.out) =
    c.in_ok-print_section-2.ensures in
    rw (err_from_is_err_and c.from_residual-in_err-write_whole.result c.from_residual-in_err-write_whole.ensures.1).1
    (in_fourth g.W.Sink.contents g.W.Sink.failures g.W.Sink.stalls (json_map_begin ++ rows_text (json_name_row name) 0 (length name))
    (listed_text xlen limit start c.args.without_tor entries)
    (json_words_begin ++ rows_text (json_word_row xlen start entries) 0 c.args.count) (codes "\n  ]\n}\n") first second third c.in_err-write_whole.ensures)

pub returns : goal.returns
returns g c =
    let name = c.args.name.now in
    let entries = map g.E.ListedEntry.listed c.args.entries.now in
    let xlen = c.args.xlen in
    let limit = c.args.limit in
    let start = c.args.first in
    let first : TakesAll (json_map_begin ++ rows_text (json_name_row name) 0 (length name))
    (writing g.W.Sink.contents g.W.Sink.failures g.W.Sink.stalls c.args.out.now c.print_section.new.out) = c.in_ok-print_section.ensures in
    let second : TakesAll (listed_text xlen limit start c.args.without_tor entries)
    (writing g.W.Sink.contents g.W.Sink.failures g.W.Sink.stalls c.print_section.new.out c.print_titled.new.out) =
    rw (sym (length-map c.args.entries.now g.E.ListedEntry.listed)) at (rw c.hart-hart.ensures at
    (rw c.as_slice.ensures.value at (rw c.without_tor-without_tor.ensures at (rw c.as_slice-2.ensures.value at c.in_ok-print_titled.ensures)))) in
    let third : TakesAll (json_words_begin ++ rows_text (json_word_row xlen start entries) 0 c.args.count)
    (writing g.W.Sink.contents g.W.Sink.failures g.W.Sink.stalls c.print_titled.new.out c.print_section-2.new.out) =
    c.in_ok-print_section-2.ensures in
    all_four g.W.Sink.contents g.W.Sink.failures g.W.Sink.stalls (json_map_begin ++ rows_text (json_name_row name) 0 (length name))
    (listed_text xlen limit start c.args.without_tor entries)
    (json_words_begin ++ rows_text (json_word_row xlen start entries) 0 c.args.count) (codes "\n  ]\n}\n") first second third c.in_ok-write_whole.ensures
