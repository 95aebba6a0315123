use Rattle.std.proofs.Common.{◌∙◌, arith, sym}
use Rattle.text_lines.proofs.LinesRead.{begins_line, first_few, same_line}
use Rattle.text_lines.proofs.line_loop.interpret_next.Goals as goal

pub interpret_ahead-requires-clause-few : goal.interpret_ahead-requires-clause-few
interpret_ahead-requires-clause-few g c = first_few _ _ c.ahead.ensures

pub take_short-requires : goal.take_short-requires
take_short-requires g c = (omega arith, begins_line 1024 _ _ c.in-Some.len c.ahead.ensures c.in-Some.ensures.line)

pub returns-in-Some-clause-comes : goal.returns-in-Some-clause-comes
returns-in-Some-clause-comes g c = λ k.
    let same = same_line 1024 _ _ c.in-Some.len c.ahead.ensures c.in-Some.ensures.line ∙ sym c.take_short.ensures.text in
    rw same at c.in-Some.ensures.comes k
