use Rattle.monitor_core.specs.Cores.{core_kept, core_marks, worlds_of}
use Rattle.monitor_core.proofs.Currents.{placed_from}
use Rattle.monitor_core.proofs.steps.Core.cite_invariant.Goals as goal

pub returns-clause-table : goal.returns-clause-table
unfolding core_kept
returns-clause-table c = c.cite_invariant.ensures.table

pub returns-clause-worlds : goal.returns-clause-worlds
unfolding core_kept worlds_of core_marks
returns-clause-worlds c = λ sets. placed_from c.args.self.now.parts sets c.args.self.now.whole
