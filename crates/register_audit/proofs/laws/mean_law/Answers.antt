-- The law is the lemma.
use Rattle.register_audit.proofs.ByMode.{same_mean}
use Rattle.register_audit.proofs.laws.mean_law.Goals as goal

pub returns : goal.returns
returns c = same_mean
