-- The law is the lemma.
use Rattle.chain_planner.proofs.Spelled.{spelled_means}
use Rattle.chain_planner.proofs.laws.held_law.Goals as goal

pub returns : goal.returns
returns c = spelled_means
