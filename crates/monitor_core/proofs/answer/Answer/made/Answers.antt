-- What the prover finds by itself, written down for the edits that break it.
use Rattle.std.proofs.Common.{rules}
use Rattle.monitor_core.proofs.answer.Answer.made.Goals as goal

pub returns-clause-some : goal.returns-clause-some
returns-clause-some c = search rules
