use Rattle.text_lines.specs.Words.{is_allowed}
use Rattle.text_lines.proofs.PlainText.{one_tested}
use Rattle.text_lines.proofs.lexical.are_allowed.Goals as goal

pub loop-b-preserved : goal.loop-b-preserved
loop-b-preserved c = one_tested is_allowed c.args.text.now c.loop-b.b-index _ c.loop-b.all c.is_allowed-all.result _ c.loop-b-test.true c.is_allowed-all.ensures
    c.loop-b.invariant
