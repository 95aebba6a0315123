-- What the prover finds by itself, written down for the edits that break it.
use Rattle.std.proofs.Common.{rules}
use Rattle.monitor_core.proofs.parts.MonitorParts.clear_mark.Goals as goal

pub returns-clause-state : goal.returns-clause-state
returns-clause-state c = search rules
