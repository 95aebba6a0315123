use Rattle.std.proofs.Common.{◌∙◌, ap}
use Rattle.sbi_decode.specs.Runners.{runner_of}
use Rattle.monitor_core.specs.Parts.{state_in, world_in}
use Rattle.monitor_core.specs.SetChanges.{change}
use Rattle.monitor_core.proofs.Said.{answered_is, nothing_is}
use Rattle.monitor_core.proofs.parts.MonitorParts.answer.Goals as goal

pub returns-clause-state : goal.returns-clause-state
returns-clause-state c = λ sets.
    let p = c.args.self.now in
    let hart = c.args.hart in
    let second = c.answer.new.self in
    ap (state_in p) (nothing_is hart c.nothing.new.self (change hart second sets) c.nothing.ensures.kind
    ∙ answered_is hart second sets (runner_of hart (world_in p.worlds hart)) c.running-who.result c.args.first c.args.second c.answer.ensures
    c.running-who.ensures.owner)
