use Rattle.std.proofs.Common.{arith}
use Rattle.std.proofs.lemmas.Result.{err_from_is_err_and}
use Rattle.host_tree.proofs.WriteFaults.{range_at}
use Rattle.host_tree.proofs.Steps.{range_step}
use Rattle.host_tree.proofs.reserved.put_ranges.Goals as goal

pub loop-range-preserved : goal.loop-range-preserved
loop-range-preserved c = range_step c.args.cells.now c.args.ranges.now c.loop-range.range-index _ c.args.writer.now c.loop-range.writer c.put_range.new.writer
    (omega arith) c.loop-range.invariant c.in_ok-put_range.ensures.written c.in_ok-put_range.ensures.fits

pub returns-in_err-put_range-clause-refused : goal.returns-in_err-put_range-clause-refused
returns-in_err-put_range-clause-refused c =
    let p = err_from_is_err_and c.from_residual.result c.from_residual.ensures.1 in
    rw (p.1, p.2) (range_at c.args.cells.now c.args.ranges.now c.loop-range.range-index _ (omega arith) _ c.in_err-put_range.ensures.refused)
