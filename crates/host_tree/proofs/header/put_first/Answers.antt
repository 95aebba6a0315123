use Rattle.host_tree.proofs.FiveWords.{five_joined}
use Rattle.host_tree.proofs.header.put_first.Goals as goal

pub returns-clause-put : goal.returns-clause-put
returns-clause-put c = five_joined c.args.out.now.items _ _ _ _ _ _ _ _ _ _ c.in_ok-put_word.ensures.put c.in_ok-put_word-2.ensures.put
    c.in_ok-put_word-3.ensures.put c.in_ok-put_word-4.ensures.put c.in_ok-put_word-5.ensures.put
