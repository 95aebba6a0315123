-- The law is the lemma.
use Rattle.register_audit.proofs.Same.{judged_as}
use Rattle.register_audit.proofs.laws.list_law.Goals as goal

pub returns : goal.returns
returns c = judged_as
