use Rattle.std.proofs.Common.{decimal, length, map, option_map, refl, sym}
use Rattle.std.proofs.lemmas.List.{length-map}
use Rattle.std.proofs.lemmas.Result.{err_from_is_err_and}
use Rattle.text_lines.specs.Writings.{Breaks, TakesAll, writing}
use Rattle.text_lines.proofs.Writings.{breaks_after, breaks_before, takes_then}
use Rattle.map_table.specs.CTexts.{c_arrays, c_loader, c_text}
use Rattle.map_table.specs.Names.{array_link, prefix_of}
use Rattle.map_table.proofs.formats.print_c.Goals as goal

pub returns-in_err-print_arrays : goal.returns-in_err-print_arrays
returns-in_err-print_arrays g c =
    let name = option_map (λ s. s.now) c.args.name in
    let xlen = c.args.xlen in
    let limit = c.args.limit in
    let entries = map g.E.ListedEntry.listed c.args.entries.now in
    let start = c.args.first in
    let first : Breaks (c_arrays (prefix_of name) (array_link name) xlen limit start entries)
    (writing g.W.Sink.contents g.W.Sink.failures g.W.Sink.stalls c.args.out.now c.print_arrays.new.out) = rw c.array_link-link.ensures at
    (rw c.prefix_of-prefix.ensures at c.in_err-print_arrays.ensures) in
    rw (err_from_is_err_and c.from_residual.result c.from_residual.ensures.1).1 (
      c_text name xlen limit start entries,
      refl,
      breaks_before g.W.Sink.contents g.W.Sink.failures g.W.Sink.stalls
          (c_loader (prefix_of name) (array_link name) xlen limit start (decimal (length entries))) first,
    )

pub returns-in_err-print_loader : goal.returns-in_err-print_loader
returns-in_err-print_loader g c =
    let name = option_map (λ s. s.now) c.args.name in
    let xlen = c.args.xlen in
    let limit = c.args.limit in
    let entries = map g.E.ListedEntry.listed c.args.entries.now in
    let start = c.args.first in
    let first : TakesAll (c_arrays (prefix_of name) (array_link name) xlen limit start entries)
    (writing g.W.Sink.contents g.W.Sink.failures g.W.Sink.stalls c.args.out.now c.print_arrays.new.out) = rw c.array_link-link.ensures at
    (rw c.prefix_of-prefix.ensures at c.in_ok-print_arrays.ensures) in
    let second : Breaks (c_loader (prefix_of name) (array_link name) xlen limit start (decimal (length entries)))
    (writing g.W.Sink.contents g.W.Sink.failures g.W.Sink.stalls c.print_arrays.new.out c.print_loader.new.out) = rw c.array_link-link.ensures at
    (rw c.prefix_of-prefix.ensures at (rw (sym (length-map c.args.entries.now g.E.ListedEntry.listed)) at
    (rw c.number_text-count.ensures at (rw c.as_slice.ensures.value at c.in_err-print_loader.ensures)))) in
    rw (err_from_is_err_and c.from_residual-in_err-print_loader.result c.from_residual-in_err-print_loader.ensures.1).1
    (c_text name xlen limit start entries, refl, breaks_after g.W.Sink.contents g.W.Sink.failures g.W.Sink.stalls first second)

pub returns : goal.returns
returns g c =
    let name = option_map (λ s. s.now) c.args.name in
    let xlen = c.args.xlen in
    let limit = c.args.limit in
    let entries = map g.E.ListedEntry.listed c.args.entries.now in
    let start = c.args.first in
    let first : TakesAll (c_arrays (prefix_of name) (array_link name) xlen limit start entries)
    (writing g.W.Sink.contents g.W.Sink.failures g.W.Sink.stalls c.args.out.now c.print_arrays.new.out) = rw c.array_link-link.ensures at
    (rw c.prefix_of-prefix.ensures at c.in_ok-print_arrays.ensures) in
    let second : TakesAll (c_loader (prefix_of name) (array_link name) xlen limit start (decimal (length entries)))
    (writing g.W.Sink.contents g.W.Sink.failures g.W.Sink.stalls c.print_arrays.new.out c.print_loader.new.out) = rw c.array_link-link.ensures at
    (rw c.prefix_of-prefix.ensures at (rw (sym (length-map c.args.entries.now g.E.ListedEntry.listed)) at
    (rw c.number_text-count.ensures at (rw c.as_slice.ensures.value at c.in_ok-print_loader.ensures)))) in
    (c_text name xlen limit start entries, refl, takes_then g.W.Sink.contents g.W.Sink.failures g.W.Sink.stalls first second)
