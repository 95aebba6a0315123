use Rattle.std.proofs.Common.{arith, sym, subst}
use Rattle.trap_server.specs.Traps.{IsTagOf}
use Rattle.trap_server.proofs.Traps.{no_event}
use Rattle.trap_server.proofs.trap.trap_in.Goals as goal

pub returns-in_default-clause-none : goal.returns-in_default-clause-none
returns-in_default-clause-none c = λ is. no_event c.args.bytes.now c.args.harts c.word.result c.word.ensures c.in_default.ensures.none

pub returns-clause-trap : goal.returns-clause-trap
returns-clause-trap c = λ is. record {
  tag = subst (IsTagOf c.in-Some.event) c.word.ensures c.in-Some.ensures.some;
  hart = sym c.word-hart.ensures;
  known = omega (arith, c.if-hart-from.false, c.from.ensures);
  call = c.call_in.ensures;
  mie = c.word-trap.ensures;
  scounteren = c.word-trap-2.ensures;
}

pub overflow_cast-trap : goal.overflow_cast-trap
overflow_cast-trap c = omega (arith, c.if-hart-from.false, c.from.ensures, c.ranges.harts.fits)
