-- The law is the lemma.
use Rattle.register_audit.proofs.Same.{permits}
use Rattle.register_audit.proofs.laws.permits_law.Goals as goal

pub returns : goal.returns
returns c = permits
