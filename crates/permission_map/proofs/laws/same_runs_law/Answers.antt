use Rattle.permission_map.proofs.Determined.{determined}
use Rattle.permission_map.proofs.laws.same_runs_law.Goals as goal

pub returns : goal.returns
returns c = determined
