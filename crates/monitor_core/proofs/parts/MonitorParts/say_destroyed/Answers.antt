use Rattle.std.proofs.Common.{◌∙◌, ap}
use Rattle.sbi_decode.specs.Runners.{EnclaveOf, runner_of}
use Rattle.monitor_core.specs.Changes.{answering}
use Rattle.monitor_core.specs.Parts.{state_in, world_in}
use Rattle.monitor_core.specs.SetChanges.{change, owner_of}
use Rattle.monitor_core.proofs.Said.{answered_is, cleared_is, owner_is}
use Rattle.monitor_core.proofs.parts.MonitorParts.say_destroyed.Goals as goal

pub returns-clause-state : goal.returns-clause-state
returns-clause-state c = λ sets.
    let p = c.args.self.now in
    let hart = c.args.hart in
    let second = c.clear.new.self in
    let third = c.answer.new.self in
    ap (state_in p) (answered_is hart third (change hart second sets) (runner_of hart (world_in p.worlds hart)) c.running-who.result 0 0 c.answer.ensures
    c.running-who.ensures.owner)
    ∙ ap (λ f. answering (state_in p f) hart 0 0) (cleared_is hart second sets (EnclaveOf c.args.id) c.clear.ensures.kind
    (ap (owner_of hart) c.clear.ensures.enclave ∙ owner_is hart c.args.id c.requires.low))
