use Rattle.std.proofs.Common.{◌+◌, ap, drop, refl, take}
use Rattle.text_lines.proofs.LinesRead.{hands_short}
use Rattle.text_lines.proofs.lines.LineReader.take_short.Goals as goal

pub returns-clause-line : goal.returns-clause-line
returns-clause-line g c = λ known.
    hands_short c.args.self.now _ known c.args.len c.requires (ap (take c.args.len) c.consume.ensures)
    (ap (drop (c.args.len + 1)) c.consume.ensures) refl refl refl
