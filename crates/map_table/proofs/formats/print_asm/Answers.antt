use Rattle.std.proofs.Common.{◌++◌, refl, length, map, option_map, sym}
use Rattle.std.proofs.lemmas.List.{length-map}
use Rattle.std.proofs.lemmas.Result.{err_from_is_err_and}
use Rattle.text_lines.specs.Writings.{Breaks, TakesAll, writing}
use Rattle.map_table.specs.RegisterRows.{rows_text}
use Rattle.map_table.specs.AsmTexts.{asm_address_row, asm_begin, asm_end, asm_head, asm_text, asm_words, label_end, label_of}
use Rattle.map_table.proofs.Four.{all_four, in_first, in_second, in_third, in_fourth}
use Rattle.map_table.proofs.formats.print_asm.Goals as goal

pub returns-in_err-print_asm_head : goal.returns-in_err-print_asm_head
returns-in_err-print_asm_head g c =
    let xlen = c.args.xlen in
    let limit = c.args.limit in
    let entries = map g.E.ListedEntry.listed c.args.entries.now in
    let start = c.args.first in
    let name = option_map (λ s. s.now) c.args.name in
    rw (err_from_is_err_and c.from_residual.result c.from_residual.ensures.1).1 (
      asm_text name xlen limit start entries,
      refl,
      in_first g.W.Sink.contents g.W.Sink.failures g.W.Sink.stalls
          (asm_head xlen start (label_of name) (label_end name)) (asm_begin xlen limit start ++ rows_text (asm_address_row xlen start entries) 0
          (length entries))
          (asm_words xlen limit start entries) (asm_end name) (rw c.label_of-label.ensures at
          (rw c.label_end-label_end.ensures at c.in_err-print_asm_head.ensures)),
    )

pub returns-in_err-print_section : goal.returns-in_err-print_section
returns-in_err-print_section g c =
    let xlen = c.args.xlen in
    let limit = c.args.limit in
    let entries = map g.E.ListedEntry.listed c.args.entries.now in
    let start = c.args.first in
    let name = option_map (λ s. s.now) c.args.name in
    let second : Breaks (asm_begin xlen limit start ++ rows_text (asm_address_row xlen start entries) 0 (length entries))
    (writing g.W.Sink.contents g.W.Sink.failures g.W.Sink.stalls c.print_asm_head.new.out c.print_section.new.out) = rw c.begin-begin.ensures at
    (rw c.as_slice.ensures.value at (rw (sym (length-map c.args.entries.now g.E.ListedEntry.listed)) at c.in_err-print_section.ensures)) in
    rw (err_from_is_err_and c.from_residual-in_err-print_section.result c.from_residual-in_err-print_section.ensures.1).1 (
      asm_text name xlen limit start entries,
      refl,
      in_second g.W.Sink.contents g.W.Sink.failures g.W.Sink.stalls
          (asm_head xlen start (label_of name) (label_end name)) (asm_begin xlen limit start ++ rows_text (asm_address_row xlen start entries) 0
          (length entries))
          (asm_words xlen limit start entries) (asm_end name) (rw c.label_of-label.ensures at
          (rw c.label_end-label_end.ensures at c.in_ok-print_asm_head.ensures)) second,
    )

pub returns-in_err-print_asm_words : goal.returns-in_err-print_asm_words
returns-in_err-print_asm_words g c =
    let xlen = c.args.xlen in
    let limit = c.args.limit in
    let entries = map g.E.ListedEntry.listed c.args.entries.now in
    let start = c.args.first in
    let name = option_map (λ s. s.now) c.args.name in
    let second : TakesAll (asm_begin xlen limit start ++ rows_text (asm_address_row xlen start entries) 0 (length entries))
    (writing g.W.Sink.contents g.W.Sink.failures g.W.Sink.stalls c.print_asm_head.new.out c.print_section.new.out) = rw c.begin-begin.ensures at
    (rw c.as_slice.ensures.value at (rw (sym (length-map c.args.entries.now g.E.ListedEntry.listed)) at c.in_ok-print_section.ensures)) in
    rw (err_from_is_err_and c.from_residual-in_err-print_asm_words.result c.from_residual-in_err-print_asm_words.ensures.1).1 (
      asm_text name xlen limit start entries,
      refl,
      in_third g.W.Sink.contents g.W.Sink.failures g.W.Sink.stalls
          (asm_head xlen start (label_of name) (label_end name)) (asm_begin xlen limit start ++ rows_text (asm_address_row xlen start entries) 0
          (length entries))
          (asm_words xlen limit start entries) (asm_end name) (rw c.label_of-label.ensures at
          (rw c.label_end-label_end.ensures at c.in_ok-print_asm_head.ensures)) second c.in_err-print_asm_words.ensures,
    )

pub returns-in_err-write_whole : goal.returns-in_err-write_whole
returns-in_err-write_whole g c =
    let xlen = c.args.xlen in
    let limit = c.args.limit in
    let entries = map g.E.ListedEntry.listed c.args.entries.now in
    let start = c.args.first in
    let name = option_map (λ s. s.now) c.args.name in
    let second : TakesAll (asm_begin xlen limit start ++ rows_text (asm_address_row xlen start entries) 0 (length entries))
    (writing g.W.Sink.contents g.W.Sink.failures g.W.Sink.stalls c.print_asm_head.new.out c.print_section.new.out) = rw c.begin-begin.ensures at
    (rw c.as_slice.ensures.value at (rw (sym (length-map c.args.entries.now g.E.ListedEntry.listed)) at c.in_ok-print_section.ensures)) in
    rw (err_from_is_err_and c.from_residual-in_err-write_whole.result c.from_residual-in_err-write_whole.ensures.1).1 (
      asm_text name xlen limit start entries,
      refl,
      in_fourth g.W.Sink.contents g.W.Sink.failures g.W.Sink.stalls
          (asm_head xlen start (label_of name) (label_end name)) (asm_begin xlen limit start ++ rows_text (asm_address_row xlen start entries) 0
          (length entries))
          (asm_words xlen limit start entries) (asm_end name) (rw c.label_of-label.ensures at
          (rw c.label_end-label_end.ensures at c.in_ok-print_asm_head.ensures)) second c.in_ok-print_asm_words.ensures
          (rw c.end.ensures at c.in_err-write_whole.ensures),
    )

pub returns : goal.returns
returns g c =
    let xlen = c.args.xlen in
    let limit = c.args.limit in
    let entries = map g.E.ListedEntry.listed c.args.entries.now in
    let start = c.args.first in
    let name = option_map (λ s. s.now) c.args.name in
    let second : TakesAll (asm_begin xlen limit start ++ rows_text (asm_address_row xlen start entries) 0 (length entries))
    (writing g.W.Sink.contents g.W.Sink.failures g.W.Sink.stalls c.print_asm_head.new.out c.print_section.new.out) = rw c.begin-begin.ensures at
    (rw c.as_slice.ensures.value at (rw (sym (length-map c.args.entries.now g.E.ListedEntry.listed)) at c.in_ok-print_section.ensures)) in (
      asm_text name xlen limit start entries,
      refl,
      all_four g.W.Sink.contents g.W.Sink.failures g.W.Sink.stalls
          (asm_head xlen start (label_of name) (label_end name)) (asm_begin xlen limit start ++ rows_text (asm_address_row xlen start entries) 0
          (length entries))
          (asm_words xlen limit start entries) (asm_end name) (rw c.label_of-label.ensures at
          (rw c.label_end-label_end.ensures at c.in_ok-print_asm_head.ensures)) second c.in_ok-print_asm_words.ensures
          (rw c.end.ensures at c.in_ok-write_whole.ensures),
    )
