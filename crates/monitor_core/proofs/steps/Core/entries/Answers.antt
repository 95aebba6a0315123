use Rattle.monitor_core.specs.Cores.{core_kept, worlds_of}
use Rattle.monitor_core.proofs.steps.Core.entries.Goals as goal

pub returns-clause-fewest : goal.returns-clause-fewest
unfolding core_kept worlds_of
returns-clause-fewest c = c.entries.ensures.list.fewest

pub returns-clause-room : goal.returns-clause-room
unfolding core_kept
returns-clause-room c = c.entries.ensures.list.room

pub returns-clause-value : goal.returns-clause-value
unfolding core_kept worlds_of
returns-clause-value c = c.entries.ensures.value
