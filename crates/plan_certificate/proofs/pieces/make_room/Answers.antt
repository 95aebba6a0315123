use Rattle.plan_certificate.proofs.Sent.{cut_in_piece}
use Rattle.plan_certificate.proofs.pieces.make_room.Goals as goal

pub returns-in_default-clause-cut : goal.returns-in_default-clause-cut
returns-in_default-clause-cut g c =
    λ bytes. cut_in_piece c.args.piece.now.items _ _ bytes (rw c.as_slice.ensures.value at c.in_default.ensures.part) c.in_default.ensures.fails
