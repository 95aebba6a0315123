-- A step leaves the platform as it is.
use Rattle.std.proofs.Common.{◌≡◌, ◌∙◌, ℕ, ap}
use Rattle.monitor_core.proofs.Layouts.{call_keeps_layout, interrupt_keeps_layout}
use Rattle.hart_trace.specs.declared.event.Event.{Event}
use Rattle.hart_trace.specs.declared.event.Event.TheVariants as events
use Rattle.hart_trace.specs.declared.reply.Reply.{Reply}
use Rattle.hart_sim.specs.States.{MachineState, core_of, view_on}
use Rattle.hart_sim.specs.Steps.{Step, verdict}
use Rattle.hart_sim.proofs.Asked.{awoken, named, asked, lent, core_access}

pub layout_stays : (old : MachineState) (hart : ℕ) (event : Event) (reply : Reply) (new : MachineState) → Step old hart event reply new
    → new.table.layout ≡ old.table.layout
layout_stays old hart (events.Access a value) reply new x = ap (λ c. c.table.layout)
    (core_access (verdict (view_on old hart) a) (awoken old hart) a value reply new x)
layout_stays old hart (events.Reg n value) reply new x = ap (λ y. y.table.layout) x.1
layout_stays old hart (events.Ecall words) reply new x =
    ap (λ y. y.table.layout) x.4 ∙ call_keeps_layout (named old hart words.items) (lent old) (asked old hart words.items) hart x.0 x.1 x.2 x.3
layout_stays old hart events.Irq reply new x = ap (λ y. y.table.layout) x.2 ∙ interrupt_keeps_layout (old.worlds hart) (core_of (awoken old hart)) hart x.0 x.1
