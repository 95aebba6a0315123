-- What the prover finds by itself, written down for the edits that break it.
use Rattle.std.proofs.Common.{rules}
use Rattle.context_switch.proofs.world_switch.switch.Goals as goal

pub returns-clause-switches : goal.returns-clause-switches
returns-clause-switches c = search rules
