use Rattle.std.proofs.Common.{◌++◌, [], ◌∷◌, map}
use Rattle.std.proofs.lemmas.Result.{err_from_is_err_and}
use Rattle.std.specs.List.{concat}
use Rattle.pmp_encoding.specs.Limits.{limit_number}
use Rattle.pmp_encoding.specs.Widths.{word_count}
use Rattle.text_lines.specs.Writings.{Breaks, TakesAll, writing}
use Rattle.text_lines.proofs.Writings.{breaks_after, breaks_before, takes_then}
use Rattle.map_table.specs.Heads.{head_begin, head_below, head_end, head_rules, head_width}
use Rattle.map_table.specs.RegisterRows.{rows_text}
use Rattle.map_table.specs.CTexts.{c_addresses_size, c_address_row, c_begin, c_between, c_word_row, c_words_size}
use Rattle.map_table.proofs.formats.print_arrays.Goals as goal

pub returns-in_err-print_titled : goal.returns-in_err-print_titled
returns-in_err-print_titled g c =
    let prefix = c.args.prefix.now in
    let link = c.args.link.now in
    let xlen = c.args.xlen in
    let limit = c.args.limit in
    let entries = map g.E.ListedEntry.listed c.args.entries.now in
    let start = c.args.first in
    let first : Breaks (concat (head_begin ∷ head_width xlen ∷ head_rules ∷ head_below start ∷ head_end ∷ c_begin xlen ∷ prefix ∷ link
    ∷ c_addresses_size limit ∷ []) ++ rows_text (c_address_row xlen start entries) 0 (limit_number limit))
    (writing g.W.Sink.contents g.W.Sink.failures g.W.Sink.stalls c.args.out.now c.print_titled.new.out) = rw c.head_begin.ensures at
    (rw c.head_width.ensures at (rw c.head_rules.ensures at (rw c.head_below.ensures at
    (rw c.head_end.ensures at (rw c.begin.ensures at (rw c.addresses_size.ensures at
    (rw c.number.ensures.value at (c.in_err-print_titled.ensures)))))))) in
    rw (err_from_is_err_and c.from_residual.result c.from_residual.ensures.1).1
    (breaks_before g.W.Sink.contents g.W.Sink.failures g.W.Sink.stalls (concat (c_between xlen ∷ prefix ∷ link ∷ c_words_size xlen limit ∷ []) ++ rows_text
    (c_word_row xlen start entries) 0 (word_count xlen limit)) first)

pub returns-in_err-print_titled-2 : goal.returns-in_err-print_titled-2
returns-in_err-print_titled-2 g c =
    let prefix = c.args.prefix.now in
    let link = c.args.link.now in
    let xlen = c.args.xlen in
    let limit = c.args.limit in
    let entries = map g.E.ListedEntry.listed c.args.entries.now in
    let start = c.args.first in
    let first : TakesAll (concat (head_begin ∷ head_width xlen ∷ head_rules ∷ head_below start ∷ head_end ∷ c_begin xlen ∷ prefix ∷ link
    ∷ c_addresses_size limit ∷ []) ++ rows_text (c_address_row xlen start entries) 0 (limit_number limit))
    (writing g.W.Sink.contents g.W.Sink.failures g.W.Sink.stalls c.args.out.now c.print_titled.new.out) = rw c.head_begin.ensures at
    (rw c.head_width.ensures at (rw c.head_rules.ensures at (rw c.head_below.ensures at
    (rw c.head_end.ensures at (rw c.begin.ensures at (rw c.addresses_size.ensures at
    (rw c.number.ensures.value at (c.in_ok-print_titled.ensures)))))))) in
    let second : Breaks (concat (c_between xlen ∷ prefix ∷ link ∷ c_words_size xlen limit ∷ []) ++ rows_text (c_word_row xlen start entries) 0
    (word_count xlen limit)) (writing g.W.Sink.contents g.W.Sink.failures g.W.Sink.stalls c.print_titled.new.out c.print_titled-2.new.out) =
    rw c.between.ensures at (rw c.words_size.ensures at (rw c.words.ensures.value at (c.in_err-print_titled-2.ensures))) in
    rw (err_from_is_err_and c.from_residual-in_err-print_titled-2.result c.from_residual-in_err-print_titled-2.ensures.1).1
    (breaks_after g.W.Sink.contents g.W.Sink.failures g.W.Sink.stalls first second)

pub returns : goal.returns
returns g c =
    let prefix = c.args.prefix.now in
    let link = c.args.link.now in
    let xlen = c.args.xlen in
    let limit = c.args.limit in
    let entries = map g.E.ListedEntry.listed c.args.entries.now in
    let start = c.args.first in
    let first : TakesAll (concat (head_begin ∷ head_width xlen ∷ head_rules ∷ head_below start ∷ head_end ∷ c_begin xlen ∷ prefix ∷ link
    ∷ c_addresses_size limit ∷ []) ++ rows_text (c_address_row xlen start entries) 0 (limit_number limit))
    (writing g.W.Sink.contents g.W.Sink.failures g.W.Sink.stalls c.args.out.now c.print_titled.new.out) = rw c.head_begin.ensures at
    (rw c.head_width.ensures at (rw c.head_rules.ensures at (rw c.head_below.ensures at
    (rw c.head_end.ensures at (rw c.begin.ensures at (rw c.addresses_size.ensures at
    (rw c.number.ensures.value at (c.in_ok-print_titled.ensures)))))))) in
    let second : TakesAll (concat (c_between xlen ∷ prefix ∷ link ∷ c_words_size xlen limit ∷ []) ++ rows_text (c_word_row xlen start entries) 0
    (word_count xlen limit)) (writing g.W.Sink.contents g.W.Sink.failures g.W.Sink.stalls c.print_titled.new.out c.print_titled-2.new.out) =
    rw c.between.ensures at (rw c.words_size.ensures at (rw c.words.ensures.value at (c.in_ok-print_titled-2.ensures))) in
    takes_then g.W.Sink.contents g.W.Sink.failures g.W.Sink.stalls first second
