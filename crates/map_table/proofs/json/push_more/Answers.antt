use Rattle.map_table.proofs.Pieces.{next_more}
use Rattle.map_table.proofs.json.push_more.Goals as goal

pub loop-stretch-preserved : goal.loop-stretch-preserved
loop-stretch-preserved c =
    next_more c.args.extents.now c.args.all.now c.loop-stretch.stretch-index _ c.loop-stretch.text.items _ _ _ c.loop-stretch-test.true
    c.in_ok-extend_from_slice.ensures.items c.in_ok-push_row.ensures
    c.loop-stretch.invariant
