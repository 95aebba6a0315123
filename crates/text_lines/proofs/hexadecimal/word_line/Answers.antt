use Rattle.std.proofs.Common.{arith}
use Rattle.text_lines.proofs.WordLines.{lanes_are}
use Rattle.text_lines.proofs.hexadecimal.word_line.Goals as goal

pub returns : goal.returns
returns c = rw c.word_digits-digits.ensures (lanes_are c.args.before c.args.value (omega (arith, c.well_formed)))
