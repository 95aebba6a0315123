use Rattle.std.proofs.Common.{◌≤◌, ◌∙◌, ap, sym, subst}
use Rattle.sbi_decode.specs.Calls.{call_of}
use Rattle.sbi_decode.specs.Runners.{runner_of}
use Rattle.monitor_core.specs.Parts.{state_in, world_in}
use Rattle.monitor_core.specs.SetChanges.{change, changed, owner_of}
use Rattle.monitor_core.specs.Steps.{DoesCall}
use Rattle.monitor_core.proofs.Said.{passed_is}
use Rattle.monitor_core.proofs.parts.MonitorParts.serve.Goals as goal

pub returns-clause-step : goal.returns-clause-step
returns-clause-step g c = λ sets.
    let old = c.args.self.now in
    let hart = c.args.hart in
    let said = c.call.result in
    let changes = c.call.new.changes in
    let first = c.call.ensures.said.first in
    let past = passed_is hart changes.first sets (runner_of hart (world_in old.worlds hart)) (ap (λ x. x.kind) first ∙ c.past_call.ensures.kind)
    (ap (λ x. owner_of hart x.enclave) first ∙ ap (owner_of hart) c.past_call.ensures.enclave ∙ c.running-who.ensures.owner) in
    subst (λ f. DoesCall (call_of c.args.asked.now) (g.D.Digests.digest_of c.args.digests.now) (state_in old f) hart said.answer said.zero
    (state_in c.call.new.self (changed hart changes sets))) past (c.call.ensures.step (change hart changes.first sets))

pub returns-clause-sets : goal.returns-clause-sets
returns-clause-sets g c = record {
  first = subst (λ n. n ≤ 64) (sym (ap (λ x. x.enclave) c.call.ensures.said.first ∙ c.past_call.ensures.enclave)) c.running-who.ensures.most;
  second = c.call.ensures.said.second;
  third = c.call.ensures.said.third;
}
