use Rattle.std.proofs.Common.{arith}
use Rattle.host_tree.proofs.Steps.{clip_all, clip_step}
use Rattle.host_tree.proofs.platform.clipped.Goals as goal

pub loop-range-preserved : goal.loop-range-preserved
loop-range-preserved c =
    let one = c.in_ok-put_clipped.ensures.put in
    clip_step c.args.memory.now c.args.ranges.now c.loop-range.range-index _ c.loop-range.list.items c.put_clipped.new.list.items one.0 (omega arith)
    c.loop-range.invariant one.1 one.2

pub returns-clause-ok : goal.returns-clause-ok
returns-clause-ok c = clip_all c.args.memory.now c.args.ranges.now c.loop-range.list.items c.loop-range.range-index (omega arith) c.loop-range.invariant
