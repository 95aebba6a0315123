use Rattle.std.proofs.Common.{◌≡◌, ◌++◌, drop, map}
use Rattle.board_texts.specs.Comments.{plain}
use Rattle.board_texts.proofs.comments.push_plain.Given as goal

abbrev pub invariant-loop-byte : goal.invariant-loop-byte
invariant-loop-byte l = l.text.items ++ map plain (drop l.byte-index l.name) ≡ l.initial.text.items ++ map plain l.name
