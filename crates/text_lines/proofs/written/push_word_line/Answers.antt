use Rattle.std.proofs.Common.{◌∙◌, ◌++◌, take, ap, append_assoc}
use Rattle.text_lines.proofs.written.push_word_line.Goals as goal

pub returns-clause-items : goal.returns-clause-items
returns-clause-items c =
    let line = c.args.line.now in
    let first = take 16 c.word_line.result.0 in
    let second = take 7 c.word_line.result.1 in
    c.push_lanes-2.ensures.items ∙ ap (λ l. l ++ second) c.push_lanes.ensures.items ∙ append_assoc line first second ∙ ap (λ l. line ++ l) c.word_line.ensures
