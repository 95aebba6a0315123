use Rattle.std.proofs.Common.{◌∙◌, ap, take, drop}
use Rattle.text_lines.proofs.LinesRead.{first_of}
use Rattle.text_lines.proofs.lines.LineReader.ahead.Goals as goal

pub returns : goal.returns
returns g c = first_of c.as_slice.result.now c.args.self.now.taken c.min.result c.min.ensures
    ∙ ap (λ xs. take 1024 (drop c.args.self.now.taken xs)) c.as_slice.ensures.value
