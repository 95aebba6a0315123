use Rattle.std.proofs.Common.{◌∙◌, ap, subst}
use Rattle.sbi_decode.specs.Calls.{call_of}
use Rattle.monitor_core.specs.Changes.{with_running}
use Rattle.monitor_core.specs.Steps.{DoesCall}
use Rattle.hart_sim.specs.Memory.{measured_in}
use Rattle.hart_trace.specs.declared.event.Event.TheVariants as events
use Rattle.hart_sim.specs.Changes.{calling}
use Rattle.hart_sim.specs.Parts.{state_in}
use Rattle.hart_sim.specs.States.{core_of}
use Rattle.hart_sim.specs.Steps.{DoesEvent, Serves}
use Rattle.hart_sim.proofs.Awake.{off}
use Rattle.hart_sim.proofs.Framed.{frame_after}
use Rattle.hart_sim.proofs.parts.MachineParts.call.Goals as goal

pub returns-clause-frame : goal.returns-clause-frame
returns-clause-frame c =
    let old = c.args.self.now in
    let is = c.wake.ensures.state in
    frame_after old c.wake.new.self c.ecall.new.self c.args.hart (ap (λ s. s.table) is) (ap (λ s. s.worlds c.args.hart) is) c.wake.ensures.kept
    (λ was. ap (λ s. s.marked c.args.hart) is ∙ off (state_in old) c.args.hart) c.wake.ensures.frame c.ecall.ensures.frame

pub returns-clause-step : goal.returns-clause-step
returns-clause-step c = λ right.
    let s = state_in c.wake.new.self in
    let new = state_in c.ecall.new.self in
    subst (λ s. DoesEvent (events.Ecall c.args.words.now) s c.args.hart c.ecall.result new) c.wake.ensures.state
    (subst (λ words. Serves (DoesCall (call_of (calling s c.args.hart words)) (measured_in s.bytes)
    (with_running (core_of s) c.args.hart (calling s c.args.hart words)) c.args.hart) s c.args.hart c.ecall.result new) c.as_slice.ensures.value
    c.ecall.ensures.step)
