use Rattle.std.proofs.Common.{◌≡◌, ◌∙◌, List, Some, ap, subst}
use Rattle.pmp_encoding.specs.Banks.{HasList}
use Rattle.pmp_encoding.specs.declared.bank.Bank.{Bank}
use Rattle.pmp_encoding.specs.declared.region.Entry.{Entry}
use Rattle.monitor_core.specs.Cores.{core_kept}
use Rattle.hart_sim.specs.Parts.{state_in, bank_at, bank_in}
use Rattle.hart_sim.proofs.Awake.{off}
use Rattle.hart_sim.proofs.BankPlaces.{met}
use Rattle.hart_sim.proofs.Framed.{frame_after}
use Rattle.hart_sim.proofs.parts.MachineParts.step.Goals as goal
use Rattle.hart_sim.specs.Banks.{MeetsList}
use Rattle.hart_sim.specs.Steps.{DoesEvent, DoesBy}
use Rattle.hart_sim.proofs.Accessed.{does_by}

pub returns-clause-frame : goal.returns-clause-frame
returns-clause-frame c =
    let old = c.args.self.now in
    let is = c.wake.ensures.state in
    frame_after old c.wake.new.self c.happen.new.self c.args.hart (ap (λ s. s.table) is) (ap (λ s. s.worlds c.args.hart) is) c.wake.ensures.kept
    (λ was. ap (λ s. s.marked c.args.hart) is ∙ off (state_in old) c.args.hart) c.wake.ensures.frame c.happen.ensures.frame

pub returns-clause-judged : goal.returns-clause-judged
returns-clause-judged c = λ access value list cause is meets.
    let old = c.args.self.now in
    let has = met (state_in old) (core_kept old.core) (bank_in old) (bank_in c.wake.new.self) c.args.hart list meets c.wake.ensures.woken
    (λ was. ap (λ hs. bank_at hs c.args.hart) (c.wake.ensures.asleep was)) in
    c.happen.ensures.judged access value is has.0 list cause has.1 has.2

pub returns-clause-step : goal.returns-clause-step
returns-clause-step c = λ right. subst (λ s. DoesEvent c.args.event s c.args.hart c.happen.result (state_in c.happen.new.self)) c.wake.ensures.state
    (c.happen.ensures.step (c.wake.ensures.frame.banks right))

pub returns-clause-effect : goal.returns-clause-effect
returns-clause-effect c =
    let old = c.args.self.now in
    let mid = c.wake.new.self in
    let new = state_in c.happen.new.self in
    let hart = c.args.hart in
    let met_there : (list : List Entry) → MeetsList (state_in old) (core_kept old.core) (bank_in old) hart list → (bank : Bank) ×
    (bank_in mid hart ≡ Some bank) × HasList bank list =
    λ list meets. met (state_in old) (core_kept old.core) (bank_in old) (bank_in mid) hart list meets c.wake.ensures.woken
    (λ was. ap (λ hs. bank_at hs hart) (c.wake.ensures.asleep was)) in
    subst (λ s. DoesBy (MeetsList (state_in old) (core_kept old.core) (bank_in old) hart) c.args.event s hart c.happen.result new) c.wake.ensures.state
    (does_by (λ list. (bank : Bank) × (bank_in mid hart ≡ Some bank) × HasList bank list)
    (MeetsList (state_in old) (core_kept old.core) (bank_in old) hart) c.args.event
    (state_in mid) hart c.happen.result new met_there c.happen.ensures.effect)
