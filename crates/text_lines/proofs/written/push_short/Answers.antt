use Rattle.std.proofs.Common.{arith}
use Rattle.text_lines.proofs.DecimalPairs.{short_put}
use Rattle.text_lines.proofs.written.push_short.Goals as goal

pub returns-clause-items : goal.returns-clause-items
returns-clause-items c = short_put _ _ _ c.args.n c.if-n-lt100.false (omega (arith, c.requires.below)) c.push_first-2.ensures.items c.push_pair.ensures.items
