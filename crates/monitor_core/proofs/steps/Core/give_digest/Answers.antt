use Rattle.monitor_core.specs.Cores.{core_kept, core_marks, worlds_of}
use Rattle.monitor_core.proofs.steps.Core.give_digest.Goals as goal

pub give_digest-requires-clause-live : goal.give_digest-requires-clause-live
unfolding core_kept
give_digest-requires-clause-live c = c.requires

pub returns : goal.returns
unfolding core_kept worlds_of core_marks
returns c = c.give_digest.ensures.state
