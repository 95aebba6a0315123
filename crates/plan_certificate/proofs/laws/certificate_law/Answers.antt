-- The law is the lemma.
use Rattle.plan_certificate.proofs.Sums.{plan_certified}
use Rattle.plan_certificate.proofs.laws.certificate_law.Goals as goal

pub returns : goal.returns
returns c = plan_certified
