use Rattle.hart_sim.proofs.StaysRight.{loaded_from, stays_right}
use Rattle.hart_sim.proofs.laws.loaded_law.Goals as goal

pub returns-clause-small : goal.returns-clause-small
returns-clause-small c = stays_right

pub returns-clause-machine : goal.returns-clause-machine
returns-clause-machine c = loaded_from
