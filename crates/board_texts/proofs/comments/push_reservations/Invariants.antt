use Rattle.std.proofs.Common.{◌≡◌, ◌++◌, drop}
use Rattle.board_texts.specs.Comments.{reservations_text}
use Rattle.board_texts.proofs.comments.push_reservations.Given as goal

abbrev pub invariant-loop-one : goal.invariant-loop-one
invariant-loop-one l = l.text.items ++ reservations_text (drop l.one-index l.reservations)
    ≡ l.initial.text.items ++ reservations_text l.reservations
