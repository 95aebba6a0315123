use Rattle.std.proofs.Common.{arith}
use Rattle.host_tree.specs.Written.{word_bytes}
use Rattle.host_tree.proofs.Fronts.{end_front}
use Rattle.host_tree.proofs.Numbers.{length-word}
use Rattle.host_tree.proofs.Sizes.{grown}
use Rattle.host_tree.proofs.blocks.put_end.Goals as goal

pub returns-clause-put : goal.returns-clause-put
returns-clause-put c = (word_bytes 2, c.in_ok-put_word.ensures.put, λ names rest. end_front names rest)

pub returns-clause-size : goal.returns-clause-size
returns-clause-size c =
    let more = grown c.args.block.now.items c.put_word.new.out.items (word_bytes 2) c.in_ok-put_word.ensures.put in
    omega (arith, more, length-word 2)
