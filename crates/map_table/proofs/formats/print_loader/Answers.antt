use Rattle.std.proofs.Common.{◌++◌, ◌-◌}
use Rattle.std.proofs.lemmas.Result.{err_from_is_err_and}
use Rattle.pmp_encoding.specs.Limits.{limit_number}
use Rattle.text_lines.specs.Writings.{Breaks, TakesAll, writing}
use Rattle.map_table.specs.RegisterRows.{rows_text}
use Rattle.map_table.specs.CTexts.{c_address_write, c_loader_begin, c_loader_end, c_word_writes}
use Rattle.map_table.proofs.Three.{all_three, in_first_of_three, in_second_of_three, in_third_of_three}
use Rattle.map_table.proofs.formats.print_loader.Goals as goal

pub returns-in_err-print_titled : goal.returns-in_err-print_titled
returns-in_err-print_titled g c =
    let prefix = c.args.prefix.now in
    let link = c.args.link.now in
    let xlen = c.args.xlen in
    let limit = c.args.limit in
    let count = c.args.count.now in
    let start = c.args.first in
    let first : Breaks (c_loader_begin prefix link xlen start count ++ rows_text (c_address_write start) 0 (limit_number limit - start))
    (writing g.W.Sink.contents g.W.Sink.failures g.W.Sink.stalls c.args.out.now c.print_titled.new.out) = rw c.count_begin.ensures at
    (rw c.count_is.ensures at (rw c.loader_note.ensures at (rw c.loader_writes.ensures at
    (rw c.loader_reason.ensures at (rw c.load_addresses.ensures at (rw c.load_words.ensures at
    (rw c.load_begin.ensures at (rw c.room_from-address_count.ensures at (c.in_err-print_titled.ensures))))))))) in
    rw (err_from_is_err_and c.from_residual.result c.from_residual.ensures.1).1
    (in_first_of_three g.W.Sink.contents g.W.Sink.failures g.W.Sink.stalls
    (c_loader_begin prefix link xlen start count ++ rows_text (c_address_write start) 0 (limit_number limit - start))
    (c_word_writes xlen limit start) c_loader_end first)

pub returns-in_err-print_word_writes : goal.returns-in_err-print_word_writes
returns-in_err-print_word_writes g c =
    let prefix = c.args.prefix.now in
    let link = c.args.link.now in
    let xlen = c.args.xlen in
    let limit = c.args.limit in
    let count = c.args.count.now in
    let start = c.args.first in
    let first : TakesAll (c_loader_begin prefix link xlen start count ++ rows_text (c_address_write start) 0 (limit_number limit - start))
    (writing g.W.Sink.contents g.W.Sink.failures g.W.Sink.stalls c.args.out.now c.print_titled.new.out) = rw c.count_begin.ensures at
    (rw c.count_is.ensures at (rw c.loader_note.ensures at (rw c.loader_writes.ensures at
    (rw c.loader_reason.ensures at (rw c.load_addresses.ensures at (rw c.load_words.ensures at
    (rw c.load_begin.ensures at (rw c.room_from-address_count.ensures at (c.in_ok-print_titled.ensures))))))))) in
    rw (err_from_is_err_and c.from_residual-in_err-print_word_writes.result c.from_residual-in_err-print_word_writes.ensures.1).1
    (in_second_of_three g.W.Sink.contents g.W.Sink.failures g.W.Sink.stalls
    (c_loader_begin prefix link xlen start count ++ rows_text (c_address_write start) 0 (limit_number limit - start))
    (c_word_writes xlen limit start) c_loader_end first c.in_err-print_word_writes.ensures)

pub returns-in_err-write_whole : goal.returns-in_err-write_whole
returns-in_err-write_whole g c =
    let prefix = c.args.prefix.now in
    let link = c.args.link.now in
    let xlen = c.args.xlen in
    let limit = c.args.limit in
    let count = c.args.count.now in
    let start = c.args.first in
    let first : TakesAll (c_loader_begin prefix link xlen start count ++ rows_text (c_address_write start) 0 (limit_number limit - start))
    (writing g.W.Sink.contents g.W.Sink.failures g.W.Sink.stalls c.args.out.now c.print_titled.new.out) = rw c.count_begin.ensures at
    (rw c.count_is.ensures at (rw c.loader_note.ensures at (rw c.loader_writes.ensures at
    (rw c.loader_reason.ensures at (rw c.load_addresses.ensures at (rw c.load_words.ensures at
    (rw c.load_begin.ensures at (rw c.room_from-address_count.ensures at (c.in_ok-print_titled.ensures))))))))) in
    rw (err_from_is_err_and c.from_residual-in_err-write_whole.result c.from_residual-in_err-write_whole.ensures.1).1
    (in_third_of_three g.W.Sink.contents g.W.Sink.failures g.W.Sink.stalls
    (c_loader_begin prefix link xlen start count ++ rows_text (c_address_write start) 0 (limit_number limit - start))
    (c_word_writes xlen limit start) c_loader_end first c.in_ok-print_word_writes.ensures c.in_err-write_whole.ensures)

pub returns : goal.returns
returns g c =
    let prefix = c.args.prefix.now in
    let link = c.args.link.now in
    let xlen = c.args.xlen in
    let limit = c.args.limit in
    let count = c.args.count.now in
    let start = c.args.first in
    let first : TakesAll (c_loader_begin prefix link xlen start count ++ rows_text (c_address_write start) 0 (limit_number limit - start))
    (writing g.W.Sink.contents g.W.Sink.failures g.W.Sink.stalls c.args.out.now c.print_titled.new.out) = rw c.count_begin.ensures at
    (rw c.count_is.ensures at (rw c.loader_note.ensures at (rw c.loader_writes.ensures at
    (rw c.loader_reason.ensures at (rw c.load_addresses.ensures at (rw c.load_words.ensures at
    (rw c.load_begin.ensures at (rw c.room_from-address_count.ensures at (c.in_ok-print_titled.ensures))))))))) in
    all_three g.W.Sink.contents g.W.Sink.failures g.W.Sink.stalls (c_loader_begin prefix link xlen start count ++ rows_text (c_address_write start) 0
    (limit_number limit - start)) (c_word_writes xlen limit start) c_loader_end first c.in_ok-print_word_writes.ensures c.in_ok-write_whole.ensures
