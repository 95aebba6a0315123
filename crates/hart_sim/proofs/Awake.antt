-- A hart is not marked after an event of its own.
use Rattle.std.proofs.Common.{◌≡◌, ◌∙◌, ℕ, false, if◌then◌else◌, refl, ap}
use Rattle.std.proofs.lemmas.Bool.{eq-eqb}
use Rattle.monitor_core.proofs.Awake.{call_leaves_awake, interrupt_leaves_awake}
use Rattle.hart_trace.specs.declared.event.Event.{Event}
use Rattle.hart_trace.specs.declared.event.Event.TheVariants as events
use Rattle.hart_trace.specs.declared.reply.Reply.{Reply}
use Rattle.hart_sim.specs.States.{MachineState, core_of, view_on}
use Rattle.hart_sim.specs.Steps.{Step, verdict}
use Rattle.hart_sim.proofs.Asked.{awoken, named, asked, lent, core_access}

pub off : (old : MachineState) (hart : ℕ) → (awoken old hart).marked hart ≡ false
off old hart = ap (λ t. if t then false else old.marked hart) (eq-eqb hart hart refl)

pub awake_then : (old : MachineState) (hart : ℕ) (event : Event) (reply : Reply) (new : MachineState) → Step old hart event reply new → new.marked hart ≡ false
awake_then old hart (events.Access a value) reply new x = ap (λ c. c.marked hart)
    (core_access (verdict (view_on old hart) a) (awoken old hart) a value reply new x) ∙ off old hart
awake_then old hart (events.Reg n value) reply new x = ap (λ y. y.marked hart) x.1 ∙ off old hart
awake_then old hart (events.Ecall words) reply new x =
    ap (λ y. y.marked hart) x.4 ∙ call_leaves_awake (named old hart words.items) (lent old) (asked old hart words.items) hart x.0 x.1 x.2 (off old hart) x.3
awake_then old hart events.Irq reply new x = ap (λ y. y.marked hart) x.2 ∙ interrupt_leaves_awake (old.worlds hart) (core_of (awoken old hart)) hart x.0
    (off old hart) x.1
