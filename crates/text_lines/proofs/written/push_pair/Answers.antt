use Rattle.text_lines.proofs.DecimalPairs.{pair_put}
use Rattle.text_lines.proofs.written.push_pair.Goals as goal

pub returns-clause-items : goal.returns-clause-items
returns-clause-items c = pair_put _ _ _ c.args.pair c.requires.below c.push.ensures.items c.push-2.ensures.items
