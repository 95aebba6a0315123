use Rattle.std.proofs.Common.{◌∙◌, arith}
use Rattle.text_lines.proofs.LinesRead.{gathers_none, hands_ended}
use Rattle.text_lines.proofs.lines.LineReader.take_line.Goals as goal

pub returns-clause-taken : goal.returns-clause-taken
returns-clause-taken g c = λ taken known.
    hands_ended c.args.self.now c.let_go.new.self c.hand_out.new.self known known _ c.as_slice-bytes.result.now c.len_before-len.result
    (gathers_none c.args.self.now c.let_go.new.self known c.let_go.ensures.pending c.let_go.ensures.came) c.let_go.ensures.number
    c.as_slice-bytes.ensures.value c.len_before-len.ensures.len (omega (arith, c.len_before-len.ensures.within, c.if-len-held.false)) c.if-len-gt-LONGEST.false
    c.hand_out.ensures.line c.hand_out.ensures.pending c.hand_out.ensures.number c.hand_out.ensures.came (c.hand_out.ensures.ended ∙ c.let_go.ensures.ended)
