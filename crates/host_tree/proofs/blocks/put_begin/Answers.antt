use Rattle.std.proofs.Common.{◌++◌, arith}
use Rattle.host_tree.specs.Written.{text_bytes, word_bytes}
use Rattle.host_tree.proofs.Fronts.{begin_front, length-text, two_joined}
use Rattle.host_tree.proofs.Numbers.{length-word}
use Rattle.host_tree.proofs.Sizes.{grown}
use Rattle.host_tree.proofs.blocks.put_begin.Goals as goal

pub returns-clause-put : goal.returns-clause-put
returns-clause-put c =
    let name = c.args.name.now in (
      word_bytes 1 ++ text_bytes name,
      two_joined c.args.block.now.items _ _ (word_bytes 1) (text_bytes name) c.in_ok-put_word.ensures.put
          c.in_ok-put_text.ensures.put,
      λ names rest. begin_front names name rest c.requires,
    )

pub returns-clause-size : goal.returns-clause-size
returns-clause-size c =
    let name = c.args.name.now in
    let first = grown c.args.block.now.items c.put_word.new.out.items (word_bytes 1) c.in_ok-put_word.ensures.put in
    let later = grown c.put_word.new.out.items c.put_text.new.out.items (text_bytes name) c.in_ok-put_text.ensures.put in
    omega (arith, first, later, length-word 1, length-text name)
