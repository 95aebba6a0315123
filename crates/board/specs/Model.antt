-- Each run of the model, as events on a board.
use Rattle.std.specs.Prelude.{◌≡◌, ◌≢◌, ℕ, ◌%◌, ◌^◌, ◌<◌, List, [], ◌++◌, ◌∷◌, Ok, Err}
use Rattle.sbi_decode.specs.Registers.{RegisterFile}
use Rattle.sbi_decode.specs.Runners.{Runner, runner_of}
use Rattle.platforms.specs.Platform.{IsLayout, PlatformLayout}
use Rattle.monitor_core.specs.Changes.{past_call}
use Rattle.monitor_core.specs.States.{running_registers}
use Rattle.hart_trace.specs.declared.event.Event.{Event}
use Rattle.hart_trace.specs.declared.event.Event.TheVariants as events
use Rattle.hart_trace.specs.declared.reply.Reply.{Reply}
use Rattle.hart_trace.specs.declared.reply.Reply.TheVariants as replies
use Rattle.hart_sim.specs.Changes.{calling}
use Rattle.hart_sim.specs.States.{MachineState, core_of, opening_state}
use Rattle.hart_sim.specs.Steps.{Run, step, still}
use Rattle.trap_server.specs.Answered.{status_word}
use Rattle.trap_server.specs.Boot.{IsFirstAnswer}
use Rattle.trap_server.specs.Words.{word_at}
use Rattle.trap_server.specs.declared.trap.Trap.{Trap}
use Rattle.trap_server.specs.declared.trap.TrapEvent.{TrapEvent}
use Rattle.trap_server.specs.declared.trap.TrapEvent.TheVariants as trap_events
use Rattle.board.specs.Board.{Board, BoardEvent, BoardRun, access, computed, no_floats, trapped}

-- a board matches a state of the model: the same table, the same world on each hart, the same byte
-- at each address, and the same registers of each suspended world. Those of a running world are
-- saved at its next trap
pub record IsAs (board : Board) (s : MachineState) : Type 0 where
  pub table : board.monitor.table ≡ s.table
  pub worlds : board.monitor.worlds ≡ s.worlds
  pub memory : board.memory ≡ s.bytes
  pub registers : (who : Runner) → ((hart : ℕ) → hart < s.table.layout.harts
      → who ≢ runner_of hart (s.worlds hart)) → board.monitor.registers who ≡ s.registers who

-- an answer contains the model's reply, in words of 64 bits: for a call the status and the value,
-- and in each case the world that resumes and its number of entries
abbrev pub SaysReply : List ℕ → Reply → Type 0
SaysReply answered (replies.Call status value world used) =
    (word_at answered 3 ≡ status_word status % 2 ^ 64) × (word_at answered 4 ≡ value % 2 ^ 64)
    × (word_at answered 2 ≡ world % 2 ^ 64) × (word_at answered 5 ≡ used % 2 ^ 64)
SaysReply answered (replies.Irq world used) = (word_at answered 2 ≡ world % 2 ^ 64)
    × (word_at answered 5 ≡ used % 2 ^ 64)
SaysReply answered _ = ⊥

-- one trap of this kind on a hart, after a computation that left registers with this property; its
-- answer contains the reply
pub record IsOneTrap (kind : TrapEvent) (hart : ℕ) (Came : RegisterFile → Type 0) (reply : Reply)
    (seen : List BoardEvent) : Type 0 where
  pub trap : Trap
  pub frame : List ℕ
  pub read : List ℕ
  pub question : List ℕ
  pub answered : List ℕ
  pub event : trap.event ≡ kind
  pub hart_is : trap.hart ≡ hart
  pub came : Came trap.registers
  pub says : SaysReply answered reply
  pub one : seen ≡ computed hart trap.registers no_floats
      ∷ (trapped trap frame read question answered ∷ [])

-- the events of a board for an event of the model: an access with its verdict, or nothing if a
-- store failed to allocate; nothing for a write of a register; for a call, a computation of the
-- registers with which the model continues past it, and a trap; and for an interrupt, a computation
-- of the running world's registers, and a trap
abbrev pub IsSeen : Event → MachineState → ℕ → Reply → List BoardEvent → Type 0
IsSeen (events.Access a value) s hart (replies.Fault cause) seen =
    seen ≡ access hart a value (Err cause) ∷ []
IsSeen (events.Access a value) s hart replies.NoMemory seen = seen ≡ []
IsSeen (events.Access a value) s hart _ seen = seen ≡ access hart a value (Ok tt) ∷ []
IsSeen (events.Reg n value) s hart reply seen = seen ≡ []
IsSeen (events.Ecall words) s hart reply seen = IsOneTrap trap_events.Call hart
    (λ file. past_call file ≡ calling s hart words.items) reply seen
IsSeen events.Irq s hart reply seen = IsOneTrap trap_events.Stop hart
    (λ file. file ≡ running_registers (core_of s) hart) reply seen

-- the events of a board for a run of the model
abbrev pub AreSeen : {old : MachineState} {events : List (ℕ × Event)} {replies : List Reply}
    {new : MachineState} → Run old events replies new → List BoardEvent → Type 0
AreSeen still seen = seen ≡ []
AreSeen (step {mid = mid} run hart event reply known may does) seen =
    (before now : List BoardEvent) × AreSeen run before × IsSeen event mid hart reply now
    × (seen ≡ before ++ now)

-- the events of a run of the model are a run of a board that ends in a matching state
pub record RunsOnBoard (layout : PlatformLayout) (opened : List ℕ) {events : List (ℕ × Event)}
    {replies : List Reply} {s : MachineState}
    (run : Run (opening_state layout) events replies s) : Type 0 where
  pub seen : List BoardEvent
  pub board : Board
  pub each : AreSeen run seen
  pub runs : BoardRun layout opened seen board
  pub is_as : IsAs board s

-- each run of the model is a run of a board, on every platform that obeys its rules and can be
-- booted
abbrev pub ModelRunsOnBoard : Type 0
ModelRunsOnBoard =
    (layout : PlatformLayout) (opened : List ℕ) (events : List (ℕ × Event)) (replies : List Reply)
    (s : MachineState) (run : Run (opening_state layout) events replies s)
    → IsLayout layout → IsFirstAnswer layout opened → RunsOnBoard layout opened run
