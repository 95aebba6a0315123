use Rattle.std.proofs.Common.{◌∙◌, sym, ap, drop}
use Rattle.std.proofs.lemmas.Bool.{eqb-true, eqb-false}
use Rattle.text_lines.specs.Words.{is_blank}
use Rattle.text_lines.proofs.Splitting.{rest_from, only_blanks, next_word_is}
use Rattle.text_lines.proofs.lexical.Words.next_word.Goals as goal

pub returns-then-is_empty-clause-word : goal.returns-then-is_empty-clause-word
returns-then-is_empty-clause-word c =
    let text = c.args.self.now.rest.now in
    let e = rest_from c.blanks_len.result text ∙ ap (λ n. drop n text) c.blanks_len.ensures.len in
    only_blanks is_blank text _ e (eqb-true _ 0 (sym c.is_empty.ensures ∙ c.if-is_empty.true))

pub returns-clause-word : goal.returns-clause-word
returns-clause-word c =
    let text = c.args.self.now.rest.now in
    let e = rest_from c.blanks_len.result text ∙ ap (λ n. drop n text) c.blanks_len.ensures.len in
    let some = eqb-false _ 0 (sym c.is_empty.ensures ∙ c.if-is_empty.false) in
    rw (rest_from c.word_len-end.result) (next_word_is is_blank text _ c.word_len-end.result e some c.word_len-end.ensures.len)
