use Rattle.hart_sim.proofs.Promises.{promised}
use Rattle.hart_sim.proofs.laws.step_law.Goals as goal

pub returns : goal.returns
returns c = promised
