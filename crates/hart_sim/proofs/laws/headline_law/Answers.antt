use Rattle.hart_sim.proofs.Headlined.{headline}
use Rattle.hart_sim.proofs.laws.headline_law.Goals as goal

pub returns : goal.returns
returns c = headline
