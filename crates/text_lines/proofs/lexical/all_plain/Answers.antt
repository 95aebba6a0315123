use Rattle.text_lines.specs.Words.{is_plain}
use Rattle.text_lines.proofs.PlainText.{one_tested}
use Rattle.text_lines.proofs.lexical.all_plain.Goals as goal

pub loop-b-preserved : goal.loop-b-preserved
loop-b-preserved c = one_tested is_plain c.args.text.now c.loop-b.b-index _ c.loop-b.all c.is_plain-all.result _ c.loop-b-test.true c.is_plain-all.ensures
    c.loop-b.invariant
