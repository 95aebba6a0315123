-- One step of the machine: the possible replies to an event on a hart, and the resulting state.
use Rattle.std.specs.Prelude.{◌≡◌, ◌≢◌, ◌⊎◌, ℕ, ◌/◌, ◌%◌, ◌^◌, ◌<◌, false, ◌&&◌, ◌==◌, nat_lt}
use Rattle.std.specs.Prelude.{if◌then◌else◌, List, [], ◌∷◌, ◌++◌, Option, Result, Ok, Err}
use Rattle.pmp_encoding.specs.declared.perm.Perm.{Perm}
use Rattle.pmp_encoding.specs.declared.region.Entry.{Entry}
use Rattle.pmp_match.specs.declared.access.Access.{Access}
use Rattle.pmp_match.specs.declared.access.Kind.{Kind}
use Rattle.pmp_match.specs.declared.access.Kind.TheVariants.{Fetch, Load, Store}
use Rattle.pmp_match.specs.declared.access.Mode.TheVariants.{Machine}
use Rattle.pmp_match.specs.declared.cause.Cause.{Cause}
use Rattle.pmp_match.specs.Causes.{misaligned, access_fault}
use Rattle.pmp_match.specs.Judgement.{Judges}
use Rattle.pmp_match.specs.Kinds.{holds}
use Rattle.pmp_encoding.specs.declared.pages.PageRange.{PageRange}
use Rattle.sbi_decode.specs.Calls.{call_of}
use Rattle.monitor_core.specs.declared.answer.Answer.{Answer}
use Rattle.monitor_core.specs.States.{MonitorState}
use Rattle.monitor_core.specs.Changes.{with_running}
use Rattle.monitor_core.specs.Steps.{DoesCall, Interrupts}
use Rattle.hart_trace.specs.declared.event.Event.{Event}
use Rattle.hart_trace.specs.declared.event.Event.TheVariants as events
use Rattle.hart_trace.specs.declared.reply.Reply.{Reply}
use Rattle.hart_trace.specs.declared.reply.Reply.TheVariants as replies
use Rattle.hart_sim.specs.Memory.{bytes_at, measured_in, number_of_bytes}
use Rattle.hart_sim.specs.States.{MachineState, awoken, core_of, with_core}
use Rattle.hart_sim.specs.Changes.{with_x, calling, storing, zeroing}
use Rattle.hart_sim.specs.Replies.{RepliesWith}
use Rattle.enclave_table.specs.Views.{current_view}
use Rattle.sbi_decode.specs.Runners.{runner_of}

-- the verdict of a view on an access: a misaligned one fails first, then one outside the space of 2
-- ^ 56 bytes; then the page's permission decides
abbrev pub verdict : (ℕ → Perm) → Access → Result (Unit {0}) Cause
verdict view a =
    if a.address % a.size == 0
    then (if nat_lt a.address (2 ^ 56) && holds (view (a.address / 4096)) a.kind then Ok tt
    else Err (access_fault a.kind))
    else Err (misaligned a.kind)

-- the effect of an allowed access. A store to a page that has not been written may fail for lack of
-- memory, and then nothing changes
abbrev pub TakesEffect : Kind → MachineState → Access → ℕ → Reply → MachineState → Type 0
TakesEffect Fetch s a value reply new = (reply ≡ replies.Done) × (new ≡ s)
TakesEffect Load s a value reply new =
    (reply ≡ replies.Loaded (number_of_bytes (bytes_at s.bytes a.address a.size))) × (new ≡ s)
TakesEffect Store s a value reply new =
    ((reply ≡ replies.Done) × (new ≡ storing s a.address a.size value))
    ⊎ ((reply ≡ replies.NoMemory) × (s.written (a.address / 4096) ≡ false) × (new ≡ s))

-- the effect of an access, given the verdict of the view
abbrev pub Accesses : Result (Unit {0}) Cause → MachineState → Access → ℕ → Reply → MachineState
    → Type 0
Accesses (Err cause) s a value reply new = (reply ≡ replies.Fault cause) × (new ≡ s)
Accesses (Ok done) s a value reply new = TakesEffect a.kind s a value reply new

-- the monitor serves a call: its new state becomes the machine's, its pages are zeroed, and the
-- reply contains its answer
abbrev pub Serves : (Answer → Option PageRange → MonitorState → Type 0) → MachineState → ℕ → Reply
    → MachineState → Type 0
Serves DoesEvent s hart reply new =
    (answer : Answer) × (pages : Option PageRange) × (core : MonitorState)
    × DoesEvent answer pages core × (new ≡ zeroing (with_core s core) pages)
    × RepliesWith (replies.Call answer.status answer.value) new hart reply

-- the effect of an event on a hart that is not marked
abbrev pub DoesEvent : Event → MachineState → ℕ → Reply → MachineState → Type 0
DoesEvent (events.Access a value) s hart reply new =
    Accesses (verdict (current_view s.table (s.worlds hart)) a) s a value reply new
DoesEvent (events.Reg n value) s hart reply new = (reply ≡ replies.Done)
    × (new ≡ with_core s (with_running (core_of s) hart
    (with_x (s.registers (runner_of hart (s.worlds hart))) n value)))
DoesEvent (events.Ecall words) s hart reply new =
    let file = calling s hart words.items in
    Serves (DoesCall (call_of file) (measured_in s.bytes) (with_running (core_of s) hart file) hart)
    s hart reply new
DoesEvent events.Irq s hart reply new = (core : MonitorState)
    × Interrupts (s.worlds hart) (core_of s) hart core × (new ≡ with_core s core)
    × RepliesWith replies.Irq new hart reply

-- the effect of an event, given the lists that an access may meet, whatever they mean: such a list
-- decides an access, and any other event has its usual effect
abbrev pub DoesBy : (List Entry → Type 0) → Event → MachineState → ℕ → Reply → MachineState → Type 0
DoesBy Meets (events.Access a value) s hart reply new =
    (list : List Entry) (said : Result (Unit {0}) Cause) → Meets list → Judges list a said
    → Accesses said s a value reply new
DoesBy Meets (events.Reg n value) s hart reply new = DoesEvent (events.Reg n value) s hart reply new
DoesBy Meets (events.Ecall words) s hart reply new = DoesEvent (events.Ecall words) s hart reply new
DoesBy Meets events.Irq s hart reply new = DoesEvent events.Irq s hart reply new

-- a step: the event first removes the mark of its hart
abbrev pub Step : MachineState → ℕ → Event → Reply → MachineState → Type 0
Step old hart event reply new = DoesEvent event (awoken old hart) hart reply new

-- the possible events on a hart: accesses by supervisor or user mode, settings of x0 to x31, calls
-- with at most eight words, and interrupts
abbrev pub IsEvent : Event → Type 0
IsEvent (events.Access a value) = a.mode ≢ Machine
IsEvent (events.Reg n value) = n < 32
IsEvent _ = Unit {0}

-- a run: each event is possible, on an existing hart, and each step starts from the state after the
-- previous one
pub data Run (old : MachineState) : List (ℕ × Event) → List Reply → MachineState → Type 0 where
  still : Run old [] [] old
  step : {events : List (ℕ × Event)} {replies : List Reply} {mid new : MachineState}
      → Run old events replies mid → (hart : ℕ) (event : Event) (reply : Reply)
      → hart < mid.table.layout.harts → IsEvent event → Step mid hart event reply new
      → Run old (events ++ (hart, event) ∷ []) (replies ++ reply ∷ []) new
