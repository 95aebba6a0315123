use Rattle.std.proofs.Common.{refl}
use Rattle.board_texts.specs.Comments.{reservation_text, reservations_text}
use Rattle.board_texts.proofs.Parts.{next_part}
use Rattle.board_texts.proofs.comments.push_reservations.Goals as goal

pub loop-one-preserved : goal.loop-one-preserved
loop-one-preserved c = next_part reservations_text reservation_text (λ x xs. refl) _ _ _ c.args.reservations.now c.loop-one.one-index _ c.loop-one-test.true
    c.loop-one.invariant c.in_ok-push_reservation.ensures
