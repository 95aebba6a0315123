use Rattle.hart_sim.proofs.Wanted.{destroys_by_need}
use Rattle.hart_sim.proofs.laws.destruction_law.Goals as goal

pub returns : goal.returns
returns c = destroys_by_need
