use Rattle.std.proofs.Common.{arith}
use Rattle.text_lines.proofs.DecimalPairs.{four_put}
use Rattle.text_lines.proofs.written.push_decimal.Goals as goal

pub returns-then-n-lt100000000-clause-items : goal.returns-then-n-lt100000000-clause-items
returns-then-n-lt100000000-clause-items c = four_put _ _ _ _ c.args.n c.if-n-lt10000.false
    (omega (arith, c.if-n-lt100000000.true)) c.push_short-then-n-lt100000000.ensures.items c.push_pair.ensures.items
    c.push_pair-then-n-lt100000000.ensures.items
