use Rattle.std.proofs.Common.{◌+◌, ◌-◌, ◌≡◌, ◌∙◌, ◌++◌, [], map, ap, ap₂, sym, refl, append_assoc}
use Rattle.std.proofs.lemmas.Result.{err_from_is_err_and}
use Rattle.text_lines.proofs.Writings.{breaks_within, takes_none, takes_then}
use Rattle.pmp_encoding.specs.Widths.{word_number}
use Rattle.map_text.specs.Placed.{word_from}
use Rattle.map_text.specs.Texts.{word_text}
use Rattle.map_text.specs.Plans.{words_text}
use Rattle.map_text.proofs.Printed.{words_text-first}
use Rattle.map_text.proofs.plan.print_words.Goals as goal

pub loop-i-init : goal.loop-i-init
loop-i-init g c = ([], refl, takes_none g.W.Sink.contents g.W.Sink.failures g.W.Sink.stalls _)

pub loop-i-preserved : goal.loop-i-preserved
loop-i-preserved g c =
    let i = c.loop-i.i in
    let first = c.args.first in
    let entries = map g.E.ListedEntry.listed c.args.entries.now in
    let w = c.loop-i.invariant in
    let line : c.as_slice.result.now ≡ word_text c.args.xlen (word_number c.args.xlen i) (word_from c.args.xlen first entries i) =
    c.as_slice.ensures.value ∙ c.word_line-line.ensures ∙ ap₂ (word_text c.args.xlen) c.word_number.ensures c.word_from.ensures in (
      w.0 ++ word_text c.args.xlen (word_number c.args.xlen i) (word_from c.args.xlen first entries i),
      append_assoc w.0 _ _ ∙ ap (λ x. w.0 ++ x) (sym (words_text-first c.args.xlen first entries i c.args.end c.loop-i-test.true)) ∙ w.1,
      takes_then g.W.Sink.contents g.W.Sink.failures g.W.Sink.stalls w.2 (rw line at c.in_ok-write_whole.ensures),
    )

pub returns-in_err-write_whole : goal.returns-in_err-write_whole
returns-in_err-write_whole g c =
    let i = c.loop-i.i in
    let first = c.args.first in
    let entries = map g.E.ListedEntry.listed c.args.entries.now in
    let w = c.loop-i.invariant in
    let line : c.as_slice.result.now ≡ word_text c.args.xlen (word_number c.args.xlen i) (word_from c.args.xlen first entries i) =
    c.as_slice.ensures.value ∙ c.word_line-line.ensures ∙ ap₂ (word_text c.args.xlen) c.word_number.ensures c.word_from.ensures in
    let whole = ap (λ x. w.0 ++ x) (sym (words_text-first c.args.xlen first entries i c.args.end c.loop-i-test.true)) ∙ w.1 in
    rw (err_from_is_err_and c.from_residual.result c.from_residual.ensures.1).1
    (rw c.whole_word-begin.ensures.value at (breaks_within g.W.Sink.contents g.W.Sink.failures g.W.Sink.stalls
    (words_text c.args.xlen first entries (i + 1) (c.args.end - (i + 1))) whole w.2 (rw line at c.in_err-write_whole.ensures)))
