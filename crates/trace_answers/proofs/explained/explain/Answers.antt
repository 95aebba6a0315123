use Rattle.std.proofs.Common.{◌≡◌, ◌∙◌, ◌-◌, ◌++◌, codes, decimal, take, ap, rules, arith}
use Rattle.text_lines.specs.Lines.{unended}
use Rattle.trace_answers.proofs.Behind.{explained_behind}
use Rattle.trace_answers.proofs.explained.explain.Goals as goal

pub returns : goal.returns
returns c =
    let n = c.args.number in
    let answer = c.args.answer.now in
    let comment = c.args.comment.now.bytes in
    let room = 127 - c.count_digits.result in
    let text : c.append-3.new.buffer.items ≡ unended answer ++ codes " # " ++ comment = search rules in
    let line : c.line_of.result ≡ take room (unended answer ++ codes " # " ++ comment) ++ codes "\n" = c.line_of.ensures
    ∙ ap (λ l. take room l ++ codes "\n") (c.as_slice-2.ensures.value ∙ text) in
    let behind = rw c.count_digits.ensures.digits at line in
    ap (λ l. decimal n ++ l) behind ∙ explained_behind n answer comment c.ranges.number.fits
    (omega (arith, c.count_digits.ensures.digits, c.count_digits.ensures.most))
