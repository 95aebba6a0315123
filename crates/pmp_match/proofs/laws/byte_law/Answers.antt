-- The law is the lemma.
use Rattle.pmp_match.proofs.Uncut.{means_law_proof}
use Rattle.pmp_match.proofs.laws.byte_law.Goals as goal

pub returns : goal.returns
returns c = means_law_proof
