use Rattle.std.proofs.Common.{List, ℕ, Bool, true, false}
use Rattle.std.specs.Prelude.{Ok, Some}
use Rattle.text_lines.specs.declared.lines.LineReader.{LineReader}
use Rattle.text_lines.specs.LineReaders.{NextLine}
use Rattle.text_lines.specs.WholeTexts.{NextOf}
use Rattle.text_lines.proofs.FirstLine.{counted, handed_next, long_next, none_next}
use Rattle.text_lines.proofs.whole_text.next_line.Goals as goal

either : {size : ℕ} (more : Bool) (old new : LineReader size) (before after : List ℕ) → NextLine (Ok more) old new (Some before) (Some after)
    → NextOf (Ok more) old new before after
either true old new before after n = handed_next old new before after n
either false old new before after n = none_next old new before after n

pub returns-in-Ok-clause-next : goal.returns-in-Ok-clause-next
returns-in-Ok-clause-next g c = either c.in-Ok.more c.args.lines.now c.next_line.new.self c.args.rest.now.now c.next_line.new.source.now c.in-Ok.ensures.line

pub returns-in-Ok-clause-came : goal.returns-in-Ok-clause-came
returns-in-Ok-clause-came g c =
    let n = c.in-Ok.ensures.line in
    counted c.args.lines.now c.next_line.new.self c.args.rest.now.now c.next_line.new.source.now n.0 n.1 n.2 n.3.consumed n.4 n.5 n.3.counted

pub returns-in-Err-LongLine-clause-next : goal.returns-in-Err-LongLine-clause-next
returns-in-Err-LongLine-clause-next g c = long_next c.in-Err-LongLine.number c.args.lines.now c.next_line.new.self c.args.rest.now.now
    c.next_line.new.source.now (rw c.in-Err-LongLine.field-0-is at c.in-Err-LongLine.ensures.line)
