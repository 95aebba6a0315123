use Rattle.monitor_core.specs.Cores.{core_kept}
use Rattle.monitor_core.proofs.Cases.{if_some}
use Rattle.monitor_core.proofs.steps.Core.entries_of.Goals as goal

pub returns-clause-none : goal.returns-clause-none
unfolding core_kept
returns-clause-none c = c.entries_of.ensures.none

pub returns-clause-fewest : goal.returns-clause-fewest
unfolding core_kept
returns-clause-fewest c = if_some c.entries_of.result (λ entries l. l.fewest) c.entries_of.ensures.list

pub returns-clause-room : goal.returns-clause-room
unfolding core_kept
returns-clause-room c = if_some c.entries_of.result (λ entries l. l.room) c.entries_of.ensures.list

pub returns-clause-value : goal.returns-clause-value
unfolding core_kept
returns-clause-value c = c.entries_of.ensures.value
