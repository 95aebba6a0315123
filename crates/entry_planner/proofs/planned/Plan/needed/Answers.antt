-- What the prover finds by itself, written down for the edits that break it.
use Rattle.std.proofs.Common.{rules}
use Rattle.entry_planner.proofs.planned.Plan.needed.Goals as goal

pub returns : goal.returns
returns g c = search rules
