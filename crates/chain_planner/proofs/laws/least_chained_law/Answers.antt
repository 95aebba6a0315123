-- The law is the lemma.
use Rattle.chain_planner.proofs.Means.{chained_le}
use Rattle.chain_planner.proofs.laws.least_chained_law.Goals as goal

pub returns : goal.returns
returns c = chained_le
