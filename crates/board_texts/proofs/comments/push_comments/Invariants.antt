use Rattle.std.proofs.Common.{◌≡◌, ◌++◌, drop}
use Rattle.device_tree.specs.Meaning.{said_of}
use Rattle.board_texts.specs.Comments.{comments_on}
use Rattle.board_texts.proofs.comments.push_comments.Given as goal

abbrev pub invariant-loop-i : goal.invariant-loop-i
invariant-loop-i l = l.text.items ++ comments_on l.run (said_of (drop l.i l.found))
    ≡ l.initial.text.items ++ comments_on l.run (said_of l.found)
