use Rattle.hart_sim.proofs.WorldsKept.{worlds_kept}
use Rattle.hart_sim.proofs.laws.worlds_law.Goals as goal

pub returns : goal.returns
returns c = worlds_kept
