-- The law is the lemmas.
use Rattle.entry_planner.proofs.Reached.{ends_within, none_behind}
use Rattle.entry_planner.proofs.laws.reach_law.Goals as goal

pub returns : goal.returns
returns c = λ view entries k small means chosen. (none_behind view entries k means, ends_within view entries k small chosen)
