-- What the prover finds by itself, written down for the edits that break it.
use Rattle.std.proofs.Common.{rules}
use Rattle.context_switch.proofs.hart.Hart.load.Goals as goal

pub returns-clause-list : goal.returns-clause-list
returns-clause-list c = search rules

pub returns-clause-bank : goal.returns-clause-bank
returns-clause-bank c = search rules
