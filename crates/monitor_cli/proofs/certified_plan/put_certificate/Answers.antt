use Rattle.std.proofs.Common.{refl}
use Rattle.monitor_cli.proofs.certified_plan.put_certificate.Goals as goal

pub returns-in_default-clause-put : goal.returns-in_default-clause-put
returns-in_default-clause-put g c = rw c.in_default.is (refl, refl)

pub returns-in-Ok-clause-put : goal.returns-in-Ok-clause-put
returns-in-Ok-clause-put g c = rw c.in-Some.is c.in-Ok.ensures.put

pub returns-in-Err-clause-broken : goal.returns-in-Err-clause-broken
returns-in-Err-clause-broken g c = (c.in-Some.file, c.in-Some.is, refl, c.in-Err.ensures.broken)
