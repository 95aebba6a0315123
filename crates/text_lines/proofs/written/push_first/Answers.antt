use Rattle.std.proofs.Common.{◌∙◌, ◌++◌, ap, sym}
use Rattle.std.proofs.lemmas.Fmt.{decimal_digit}
use Rattle.itoa.proofs.Decimal.{decimal_two}
use Rattle.text_lines.proofs.written.push_first.Goals as goal

pub returns-then-n-lt10-clause-items : goal.returns-then-n-lt10-clause-items
returns-then-n-lt10-clause-items c = c.push.ensures.items ∙ sym (ap (λ xs. c.args.line.now ++ xs) (decimal_digit c.args.n c.if-n-lt10.true))

pub returns-clause-items : goal.returns-clause-items
returns-clause-items c = c.push_pair.ensures.items ∙ sym (ap (λ xs. c.args.line.now ++ xs) (decimal_two c.args.n c.if-n-lt10.false c.requires.below))
