use Rattle.std.proofs.Common.{◌∙◌, ◌++◌, [], ap, sym, subst, append_assoc, append-nil, refl, map}
use Rattle.std.proofs.lemmas.Result.{err_from_is_err_and}
use Rattle.std.specs.List.{concat}
use Rattle.text_lines.specs.Writings.{TakesAll, writing}
use Rattle.text_lines.proofs.Writings.{breaks_within, takes_none, takes_then}
use Rattle.map_table.proofs.Rowed.{texts-first, texts-none}
use Rattle.map_table.proofs.register_rows.print_texts.Goals as goal

pub loop-text-init : goal.loop-text-init
loop-text-init g c = ([], refl, takes_none g.W.Sink.contents g.W.Sink.failures g.W.Sink.stalls _)

pub loop-text-preserved : goal.loop-text-preserved
loop-text-preserved g c =
    let w = c.loop-text.invariant in (
      w.0 ++ _,
      append_assoc w.0 _ _ ∙ ap (λ x. w.0 ++ x) (sym (texts-first c.args.texts.now c.loop-text.text-index _ c.loop-text-test.true)) ∙ w.1,
      takes_then g.W.Sink.contents g.W.Sink.failures g.W.Sink.stalls w.2 c.in_ok-write_whole.ensures,
    )

pub returns-in_err-write_whole : goal.returns-in_err-write_whole
returns-in_err-write_whole g c =
    let w = c.loop-text.invariant in
    let whole = ap (λ x. w.0 ++ x) (sym (texts-first c.args.texts.now c.loop-text.text-index _ c.loop-text-test.true)) ∙ w.1 in
    rw (err_from_is_err_and c.from_residual.result c.from_residual.ensures.1).1
    (breaks_within g.W.Sink.contents g.W.Sink.failures g.W.Sink.stalls _ whole w.2 c.in_err-write_whole.ensures)

pub returns : goal.returns
returns g c =
    let w = c.loop-text.invariant in
    let whole = sym (append-nil w.0) ∙ ap (λ xs. w.0 ++ concat (map (λ s. s.now) xs))
    (sym (texts-none c.args.texts.now c.loop-text.text-index c.loop-text-test.false)) ∙ w.1 in
    subst (λ text. TakesAll text (writing g.W.Sink.contents g.W.Sink.failures g.W.Sink.stalls c.args.out.now c.loop-text.out)) whole w.2
