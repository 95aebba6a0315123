-- The promises of every step.
use Rattle.std.specs.Prelude.{◌≡◌, ◌≢◌, ◌↔◌, ℕ, ◌/◌, ◌^◌, ◌<◌, true}
use Rattle.pmp_match.specs.declared.access.Access.{Access}
use Rattle.pmp_match.specs.declared.cause.Cause.{Cause}
use Rattle.pmp_match.specs.Accesses.{IsAligned}
use Rattle.pmp_match.specs.Kinds.{holds}
use Rattle.enclave_table.specs.Tables.{IsTable}
use Rattle.hart_trace.specs.declared.event.Event.{Event}
use Rattle.hart_trace.specs.declared.event.Event.TheVariants as events
use Rattle.hart_trace.specs.declared.reply.Reply.{Reply}
use Rattle.hart_trace.specs.declared.reply.Reply.TheVariants as replies
use Rattle.monitor_core.specs.Switches.{KeepsRegisters}
use Rattle.hart_sim.specs.States.{MachineState, core_of}
use Rattle.hart_sim.specs.Privacy.{KeepsPrivate, DeniesMonitor, DeniesOthers, ZeroesDestroyed}
use Rattle.hart_sim.specs.Wants.{RefusesByNeed}
use Rattle.enclave_table.specs.Views.{current_view}

-- an aligned access in the space gets no fault iff the current view of its hart allows its kind
abbrev pub AnswersByView : MachineState → ℕ → Event → Reply → Type 0
AnswersByView old hart event reply =
    (access : Access) (value : ℕ) → event ≡ events.Access access value → IsAligned access
    → access.address < 2 ^ 56
    → ((cause : Cause) → reply ≢ replies.Fault cause)
    ↔ (holds (current_view old.table (old.worlds hart) (access.address / 4096)) access.kind
    ≡ true)

-- an access changes no registers
abbrev pub LeavesRegisters : MachineState → Event → MachineState → Type 0
LeavesRegisters old event new = (access : Access) (value : ℕ) → event ≡ events.Access access value
    → new.registers ≡ old.registers

-- the promises of one event, given the state before it, its reply and the state after it
pub record Promises (old : MachineState) (hart : ℕ) (event : Event) (reply : Reply)
    (new : MachineState) : Type 0 where
  pub allowed : AnswersByView old hart event reply
  pub private : KeepsPrivate old hart event reply new
  pub denied : DeniesOthers old hart event reply
  pub monitor : DeniesMonitor old event reply
  pub destroyed : ZeroesDestroyed old new
  pub registers : KeepsRegisters (core_of old) hart (core_of new)
  pub accesses : LeavesRegisters old event new
  pub wants : RefusesByNeed old hart event reply
  pub table : IsTable new.table
  pub platform : new.table.layout ≡ old.table.layout
