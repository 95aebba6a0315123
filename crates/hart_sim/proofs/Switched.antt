-- What becomes of registers over a step.
use Rattle.std.proofs.Common.{ℕ, refl, ap, sym, subst}
use Rattle.monitor_core.specs.States.{MonitorState}
use Rattle.monitor_core.specs.Switches.{KeepsRegisters}
use Rattle.monitor_core.proofs.Switched.{call_keeps_registers, interrupt_keeps_registers, marking_keeps_registers, putting_keeps_registers, put_before}
use Rattle.hart_trace.specs.declared.event.Event.{Event}
use Rattle.hart_trace.specs.declared.event.Event.TheVariants as events
use Rattle.hart_trace.specs.declared.reply.Reply.{Reply}
use Rattle.hart_sim.specs.Changes.{calling}
use Rattle.hart_sim.specs.Promises.{LeavesRegisters}
use Rattle.hart_sim.specs.States.{MachineState, awoken, core_of, view_on}
use Rattle.hart_sim.specs.Steps.{Step, verdict}
use Rattle.hart_sim.proofs.Asked.{named, asked, lent, core_access}

-- the mark that an event takes away first is no register
woken_first : (old : MachineState) (hart : ℕ) (core : MonitorState) → KeepsRegisters (core_of (awoken old hart)) hart core
    → KeepsRegisters (core_of old) hart core
woken_first old hart core k = record { gone = k.gone; exited = k.exited; others = k.others; host = k.host; enclave = k.enclave }

pub keeps_registers : (old : MachineState) (hart : ℕ) (event : Event) (reply : Reply) (new : MachineState) → Step old hart event reply new
    → KeepsRegisters (core_of old) hart (core_of new)
keeps_registers old hart (events.Access a value) reply new x =
    let is = core_access (verdict (view_on old hart) a) (awoken old hart) a value reply new x in
    marking_keeps_registers (core_of old) (core_of new) hart (ap (λ c. c.table) is) (ap (λ c. c.worlds hart) is) (ap (λ c. c.registers) is)
keeps_registers old hart (events.Reg n value) reply new x = woken_first old hart (core_of new)
    (putting_keeps_registers (core_of (awoken old hart)) (core_of new) hart _ (ap core_of x.1))
keeps_registers old hart (events.Ecall words) reply new x =
    let s = core_of (awoken old hart) in
    let file = calling (awoken old hart) hart words.items in
    woken_first old hart (core_of new) (subst (KeepsRegisters s hart) (sym (ap core_of x.4))
    (put_before s x.2 hart file (call_keeps_registers (named old hart words.items) (lent old) (asked old hart words.items) hart x.0 x.1 x.2 x.3)))
keeps_registers old hart events.Irq reply new x =
    let s = core_of (awoken old hart) in
    woken_first old hart (core_of new) (subst (KeepsRegisters s hart) (sym (ap core_of x.2)) (interrupt_keeps_registers (old.worlds hart) s hart x.0 refl x.1))

pub leaves_registers : (old : MachineState) (hart : ℕ) (event : Event) (reply : Reply) (new : MachineState) → Step old hart event reply new
    → LeavesRegisters old event new
leaves_registers old hart event reply new x = λ a value is.
    let y : Step old hart (events.Access a value) reply new = subst (λ e. Step old hart e reply new) is x in
    ap (λ c. c.registers) (core_access (verdict (view_on old hart) a) (awoken old hart) a value reply new y)
