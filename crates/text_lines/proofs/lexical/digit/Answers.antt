use Rattle.text_lines.proofs.Digits.{DIGITS_at, digit_most}
use Rattle.text_lines.proofs.lexical.digit.Goals as goal

pub returns-clause-value : goal.returns-clause-value
returns-clause-value c = rw c.from.ensures (DIGITS_at c.args.byte c.ranges.byte.fits)

pub returns-clause-most : goal.returns-clause-most
returns-clause-most c = rw (c.from.ensures, DIGITS_at c.args.byte c.ranges.byte.fits) (digit_most c.args.byte)
