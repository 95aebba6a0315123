use Rattle.plan_certificate.proofs.Sent.{held_put}
use Rattle.plan_certificate.proofs.pieces.put.Goals as goal

pub returns-clause-put : goal.returns-clause-put
returns-clause-put g c = held_put _ _ _ _ _ _ c.in-Ok.ensures.put c.hold.ensures

pub returns-in_default-clause-cut : goal.returns-in_default-clause-cut
returns-in_default-clause-cut g c = c.in_default.ensures.cut c.args.bytes.now
