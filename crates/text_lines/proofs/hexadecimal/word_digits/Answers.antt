use Rattle.std.proofs.Common.{refl}
use Rattle.text_lines.proofs.WordDigits.{digits_are}
use Rattle.text_lines.proofs.hexadecimal.word_digits.Goals as goal

pub returns : goal.returns
returns c = digits_are c.args.value _ refl
