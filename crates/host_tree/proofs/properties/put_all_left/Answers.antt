use Rattle.std.proofs.Common.{[], refl, arith}
use Rattle.std.proofs.lemmas.Result.{err_from_is_err_and}
use Rattle.host_tree.proofs.WriteFaults.{piece_at}
use Rattle.host_tree.proofs.Adding.{adds_none}
use Rattle.host_tree.proofs.Steps.{left_all, left_step}
use Rattle.host_tree.proofs.properties.put_all_left.Goals as goal

pub loop-placed-init : goal.loop-placed-init
loop-placed-init c = λ own e. (own, e, [], adds_none c.args.writer.now, refl)

pub loop-placed-preserved : goal.loop-placed-preserved
loop-placed-preserved c = λ own e. left_step c.args.is_hart c.args.is_closed c.args.properties.now c.loop-placed.placed-index _ own c.args.writer.now
    c.loop-placed.writer c.put_piece.new.writer (omega arith) (c.loop-placed.invariant own e) c.in_ok-put_piece.ensures.put

pub returns-clause-put : goal.returns-clause-put
returns-clause-put c = λ own e. left_all c.args.is_hart c.args.is_closed c.args.properties.now c.loop-placed.placed-index own c.args.writer.now
    c.loop-placed.writer (omega arith) (c.loop-placed.invariant own e)

pub returns-in_err-put_piece-clause-refused : goal.returns-in_err-put_piece-clause-refused
returns-in_err-put_piece-clause-refused c =
    let p = err_from_is_err_and c.from_residual.result c.from_residual.ensures.1 in
    rw (p.1, p.2) (piece_at c.args.properties.now c.loop-placed.placed-index _ (omega arith) _ c.in_err-put_piece.ensures.refused)
