use Rattle.std.proofs.Common.{subst, ap}
use Rattle.platforms.specs.Platform.{IsLayout}
use Rattle.monitor_core.specs.Cores.{core_kept, core_marks, worlds_of}
use Rattle.monitor_core.specs.States.{MonitorState}
use Rattle.monitor_core.proofs.steps.Core.boot.Goals as goal

pub returns-in-Ok-clause-state : goal.returns-in-Ok-clause-state
unfolding core_kept worlds_of core_marks
returns-in-Ok-clause-state c = λ sets.
    let with : MonitorState → MonitorState = λ s. record s { registers = sets } in
    ap with c.in-Ok.ensures.state

pub returns-in-Ok-clause-rules : goal.returns-in-Ok-clause-rules
returns-in-Ok-clause-rules c = subst (λ t. IsLayout t.layout) (ap (λ s. s.table) c.in-Ok.ensures.state) c.cite_invariant.ensures.table.layout
