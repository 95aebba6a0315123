use Rattle.permission_map.proofs.Counted.{two_more}
use Rattle.permission_map.proofs.laws.runs_law.Goals as goal

pub returns : goal.returns
returns c = two_more
