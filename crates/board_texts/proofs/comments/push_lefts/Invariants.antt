use Rattle.std.proofs.Common.{◌≡◌, ◌++◌, drop}
use Rattle.device_tree.specs.Meaning.{said_of}
use Rattle.board_texts.specs.Comments.{lefts_text}
use Rattle.board_texts.proofs.comments.push_lefts.Given as goal

abbrev pub invariant-loop-one : goal.invariant-loop-one
invariant-loop-one l = l.text.items ++ lefts_text l.runs (said_of (drop l.one-index l.found))
    ≡ l.initial.text.items ++ lefts_text l.runs (said_of l.found)
