use Rattle.hart_sim.proofs.Wanted.{creates_by_need}
use Rattle.hart_sim.proofs.laws.creation_law.Goals as goal

pub returns : goal.returns
returns c = creates_by_need
