use Rattle.plan_certificate.proofs.Sent.{held_put}
use Rattle.plan_certificate.proofs.pieces.put_heads.Goals as goal

pub returns-clause-put : goal.returns-clause-put
returns-clause-put g c = held_put _ _ _ _ _ _ c.in-Ok.ensures.put c.hold_heads-behind.ensures.held
