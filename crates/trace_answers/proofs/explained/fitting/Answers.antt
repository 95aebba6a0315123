use Rattle.std.proofs.Common.{sym, take_all, length-take-le, arith}
use Rattle.trace_answers.proofs.explained.fitting.Goals as goal

pub returns-then-text-room-clause-value : goal.returns-then-text-room-clause-value
returns-then-text-room-clause-value c = sym (take_all c.args.room c.args.text.now (omega (arith, c.if-text-room.true)))

pub slice_bounds-result-end : goal.slice_bounds-result-end
slice_bounds-result-end c = sym (length-take-le c.args.room c.args.text.now (omega (arith, c.if-text-room.false)))

pub returns-clause-most : goal.returns-clause-most
returns-clause-most c = let len = length-take-le c.args.room c.args.text.now (omega (arith, c.if-text-room.false)) in omega (arith, len)
