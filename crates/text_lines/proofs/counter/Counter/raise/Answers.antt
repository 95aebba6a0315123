-- A last digit below nine is raised; a last nine becomes a zero where the digit before it is raised.
use Rattle.std.proofs.Common.{rules, take}
use Rattle.text_lines.proofs.Counters.{carried, raised}
use Rattle.text_lines.proofs.counter.Counter.raise.Goals as goal

pub returns-then-self-lt57-clause-digits : goal.returns-then-self-lt57-clause-digits
returns-then-self-lt57-clause-digits c =
    let old = c.args.self.now in
    raised (take old.len old.front) old.last c.args.n c.requires.digits c.if-self-lt57.true c.requires.next

pub returns-then-self-lt57-2-clause-digits : goal.returns-then-self-lt57-2-clause-digits
returns-then-self-lt57-2-clause-digits c =
    let old = c.args.self.now in
    carried old.front old.len old.last c.args.n c.requires.digits c.if-self-lt57.false c.if-self-gt0.true (search rules) c.if-self-lt57-2.true c.requires.next
