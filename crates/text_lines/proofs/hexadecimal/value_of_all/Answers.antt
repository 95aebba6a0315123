use Rattle.std.proofs.Common.{take, length-take-le}
use Rattle.text_lines.proofs.Hexadecimals.{packed}
use Rattle.text_lines.proofs.hexadecimal.value_of_all.Goals as goal

pub returns : goal.returns
returns c = packed (take 16 c.args.text.now) c.nibbles-nibbles.result c.from_be_bytes.result
    (length-take-le 16 c.args.text.now c.requires) c.nibbles-nibbles.ensures c.from_be_bytes.ensures
