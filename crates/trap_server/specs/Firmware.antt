-- The properties of every list of traps that was served and answered.
use Rattle.std.specs.Prelude.{◌≡◌, ◌≢◌, ◌⊎◌, ℕ, ◌+◌, ◌/◌, ◌%◌, ◌^◌, ◌<◌, ◌≤◌, ◌==◌, zero, suc}
use Rattle.std.specs.Prelude.{nat_lt, Bool, true, false, ◌&&◌, if◌then◌else◌, List, [], ◌∷◌, length}
use Rattle.std.specs.Prelude.{drop, slice_index_or, Option, None, Some, IfSome, ⊤}
use Rattle.pmp_encoding.specs.declared.limit.Limit.{Limit}
use Rattle.pmp_encoding.specs.declared.pages.PageRange.{PageRange}
use Rattle.pmp_encoding.specs.declared.region.Entry.{Entry}
use Rattle.pmp_encoding.specs.Limits.{limit_number}
use Rattle.pmp_encoding.specs.Lists.{MeansList}
use Rattle.pmp_encoding.specs.Views.{SameView, View}
use Rattle.pmp_match.specs.Meaning.{IsFewest}
use Rattle.sbi_decode.specs.declared.calls.Call.{Call}
use Rattle.sbi_decode.specs.declared.world.World.{World}
use Rattle.sbi_decode.specs.declared.world.World.TheVariants.{Host, Enclave as InEnclave}
use Rattle.sbi_decode.specs.Calls.{call_of}
use Rattle.sbi_decode.specs.Registers.{RegisterFile, with_x}
use Rattle.sbi_decode.specs.Runners.{Runner, EnclaveOf}
use Rattle.measurement.specs.declared.request.Create.{Create}
use Rattle.platforms.specs.Platform.{PlatformLayout}
use Rattle.enclave_table.specs.Enclaves.{EnclaveTable, Live}
use Rattle.enclave_table.specs.declared.enclave.Enclave.{Enclave}
use Rattle.enclave_table.specs.Refusals.{refusal_number}
use Rattle.enclave_table.specs.Tables.{IsTable}
use Rattle.enclave_table.specs.Views.{current_view}
use Rattle.monitor_core.specs.Answers.{below_zero, world_number}
use Rattle.monitor_core.specs.Changes.{is_host, past_call}
use Rattle.monitor_core.specs.Frames.{ClearsMemory}
use Rattle.monitor_core.specs.States.{MonitorState, opening_monitor, running_registers}
use Rattle.monitor_core.specs.SetChanges.{changed}
use Rattle.monitor_core.specs.declared.set_changes.SetChanges.{SetChanges}
use Rattle.trap_server.specs.Sets.{AreThere, with_sets}
use Rattle.monitor_core.specs.Switches.{HasExited, IsGone, KeepsRegisters, runner_on}
use Rattle.monitor_core.specs.Wants.{IsRefusedByNeed}
use Rattle.monitor_core.specs.Worlds.{ArePlaced}
use Rattle.monitor_core.specs.declared.answer.Answer.{Answer}
use Rattle.trap_server.specs.declared.trap.TrapEvent.{TrapEvent}
use Rattle.trap_server.specs.declared.trap.TrapEvent.TheVariants as trap_events
use Rattle.trap_server.specs.declared.trap.Trap.{Trap}
use Rattle.trap_server.specs.declared.answer.NewLists.{NewLists}
use Rattle.trap_server.specs.declared.answer.NewLists.TheVariants as renewed
use Rattle.trap_server.specs.Answered.{AreAwake, IsAnswer}
use Rattle.trap_server.specs.PageDigest.{ArePages, question_bytes}
use Rattle.trap_server.specs.Runs.{ServesTraps, next_trap, no_trap}
use Rattle.trap_server.specs.Service.{given_at}
use Rattle.trap_server.specs.Words.{word_at}

-- the configuration byte of entry i in the bytes of a list
abbrev pub loaded_cfg : List ℕ → ℕ → ℕ
loaded_cfg bytes i = slice_index_or bytes (8 + i) 0

-- the address register of entry i in the bytes of a list
abbrev pub loaded_address : List ℕ → ℕ → ℕ
loaded_address bytes i = word_at bytes (9 + i)

-- the pairs of `count` entries from `first` on
abbrev pub loaded_pairs : List ℕ → ℕ → ℕ → List (ℕ × ℕ)
loaded_pairs bytes first zero = []
loaded_pairs bytes first (suc count) = (loaded_cfg bytes first, loaded_address bytes first)
    ∷ loaded_pairs bytes (suc first) count

-- the registers in the bytes of a list encode entries that mean a view, and no shorter list does; a
-- hart with this limit has room for them, and all later entries are OFF
pub record HasFewest (bytes : List ℕ) (limit : Limit) (view : View) : Type 0 where
  pub entries : List Entry
  pub fewest : IsFewest view entries
  pub room : length entries ≤ limit_number limit
  pub list : MeansList (loaded_pairs bytes 0 (limit_number limit)) entries
  pub off : (i : ℕ) → length entries ≤ i → i < 64 → (loaded_cfg bytes i ≡ 0)
      × (loaded_address bytes i ≡ 0)

-- the list of a world by its number, 0 for the host, after an answer. Word 9 is the number of lists
-- in the answer: the first is the host's, the second that of the enclave in word 4. Each other
-- world keeps its list
abbrev pub list_after : List ℕ → (ℕ → List ℕ) → ℕ → List ℕ
list_after answered lists zero = if nat_lt 0 (word_at answered 9) then drop 184 answered
    else lists 0
list_after answered lists (suc n) = if word_at answered 9 == 2 && word_at answered 4 == suc n
    then drop 768 answered else lists (suc n)

-- the list that a hart has loaded after an answer, by the lists of the worlds: that of the world in
-- word 2 if the hart is the one in word 1; the host's if its bit in word 8 is set; and otherwise
-- the list that it had
abbrev pub loaded_after : List ℕ → (ℕ → List ℕ) → List ℕ → ℕ → List ℕ
loaded_after answered lists before hart = if word_at answered 1 == hart
    then lists (word_at answered 2)
    else (if word_at answered 8 / 2 ^ hart % 2 == 1 then lists 0 else before)

-- the list last answered for a world by its number; before any trap, the one in the answer to the
-- platform
abbrev pub list_last : (opened : List ℕ) {old : MonitorState} {read written : List ℕ}
    {new : MonitorState} → ServesTraps old read written new → ℕ → List ℕ
list_last opened no_trap world = drop 184 opened
list_last opened
    (next_trap served trap frame more question answered changes new size is step) world =
    list_after answered (list_last opened served) world

-- the list that a hart loaded last
abbrev pub loaded_last : (opened : List ℕ) {old : MonitorState} {read written : List ℕ}
    {new : MonitorState} → ServesTraps old read written new → ℕ → List ℕ
loaded_last opened no_trap hart = drop 184 opened
loaded_last opened
    (next_trap served trap frame more question answered changes new size is step) hart =
    loaded_after answered (list_after answered (list_last opened served))
    (loaded_last opened served hart) hart

-- the world exists: it is the host or a live enclave
abbrev pub IsThere : EnclaveTable → World → Type 0
IsThere table Host = ⊤
IsThere table (InEnclave id) = (e : Enclave) × Live table id e

-- the list of a world is new, given the id of the new enclave
abbrev pub is_new : NewLists → ℕ → World → Bool
is_new renewed.Nothing id world = false
is_new renewed.Host id world = is_host world
is_new renewed.HostAndMade id Host = true
is_new renewed.HostAndMade id (InEnclave other) = id == other

-- the call that a trap makes, if it is one
abbrev pub called : TrapEvent → RegisterFile → Option Call
called trap_events.Call registers = call_of registers
called trap_events.Stop registers = None

-- the private pages of an enclave
abbrev pub private_pages : Create → PageRange
private_pages parts = record {
  first = parts.base / 4096;
  count = parts.text_pages + parts.data_pages;
}

-- pages to zero are memory and not the monitor's, and they are the private pages of an enclave that
-- was destroyed
abbrev pub AreDestroyed : MonitorState → MonitorState → PageRange → Type 0
AreDestroyed old new range = ClearsMemory old.table.layout range
    × ((id : ℕ) × (gone : IsGone old new id) × (range ≡ private_pages gone.0.parts))

-- either no page was requested and none was read; or the requested pages are memory and not the
-- monitor's, and each was read once, by rising number
abbrev pub AsksMemory : PlatformLayout → List ℕ → List ℕ → Type 0
AsksMemory layout question read =
    ((question ≡ []) × (read ≡ []))
    ⊎ ((range : PageRange) × (pages : List (List ℕ)) × ClearsMemory layout range
    × (question ≡ question_bytes range.first range.count)
    × ArePages range.first range.count read pages)

-- the registers of the world that trapped are those that it had, except that after a call the
-- program counter is past it, and a0 and a1 may be an answer
abbrev pub AreThose : TrapEvent → RegisterFile → RegisterFile → Type 0
AreThose trap_events.Call came now =
    (now ≡ past_call came)
    ⊎ ((first second : ℕ) × (now ≡ with_x (with_x (past_call came) 10 first) 11 second))
AreThose trap_events.Stop came now = now ≡ came

-- the properties of a trap that was served: of what was requested and read, of the answer, and of
-- the states before and after
pub record KeepsTrap (old : MonitorState) (trap : Trap) (changes : SetChanges)
    (read question answered : List ℕ) (new : MonitorState) : Type 0 where
  -- the contents of the answer: its status and value, the pages to zero, the harts that are woken,
  -- the new lists of entries, and the control words if a host enters an enclave
  pub answer : Answer
  pub cleared : Option PageRange
  pub woken : List Bool
  pub lists : NewLists
  pub says : IsAnswer new (given_at old new trap) trap.hart answer cleared woken lists changes
      answered
  -- a creation or destruction is refused for lack of entries iff a resulting view needs too many of
  -- them
  pub need :
      IsRefusedByNeed (called trap.event trap.registers) old.table (old.worlds trap.hart)
      (λ refusal. answer.status ≡ below_zero (refusal_number refusal))
  -- the pages that are requested, and the pages to zero
  pub asks : AsksMemory old.table.layout question read
  pub zeroes : IfSome cleared (AreDestroyed old new)
  pub destroys : (id : ℕ) → (gone : IsGone old new id)
      → cleared ≡ Some (private_pages gone.0.parts)
  -- an enclave whose list is new exists. A world that exists and whose list is not new existed
  -- before, and its view is unchanged, so its list is still right
  pub made : lists ≡ renewed.HostAndMade → IsThere new.table (InEnclave answer.value)
  pub keeps : (world : World) → IsThere new.table world → is_new lists answer.value world ≡ false
      → IsThere old.table world
      × SameView (current_view old.table world) (current_view new.table world)
  -- a hart that is woken runs the host. Each other hart stays in its world, and if it is not woken
  -- its view is unchanged too, so it may go on with its entries
  pub wakes : (other : ℕ) → other < old.table.layout.harts
      → slice_index_or woken other false ≡ true → new.worlds other ≡ Host
  pub stays : (other : ℕ) → other ≢ trap.hart → new.worlds other ≡ old.worlds other
  pub others :
      (other : ℕ) → other ≢ trap.hart → other < old.table.layout.harts
      → slice_index_or woken other false ≡ false
      → SameView (current_view old.table (old.worlds other))
      (current_view new.table (new.worlds other))
  -- the registers of each world, by the sets before and after the changes of the answer; and those
  -- of the world that trapped, unless it exited
  pub registers : KeepsRegisters old trap.hart new
  pub came : ((id : ℕ) → runner_on old trap.hart ≡ EnclaveOf id → HasExited old new id → ⊥)
      → AreThose trap.event (running_registers old trap.hart)
      (new.registers (runner_on old trap.hart))

-- each trap of a run has these properties, whatever the register sets contain
abbrev pub AreKept : {old : MonitorState} {read written : List ℕ} {new : MonitorState}
    → ServesTraps old read written new → Type 0
AreKept no_trap = ⊤
AreKept (next_trap {mid = mid} served trap frame more question answered changes new size is step) =
    AreKept served × ((sets : Runner → RegisterFile) → AreThere mid trap sets
    → KeepsTrap (with_sets mid sets) trap changes more question answered
    (with_sets new (changed trap.hart changes sets)))

-- after any traps: the table is sound, and the platform is the one that was read. Each hart is in
-- the host's world or in that of a Running enclave, each of which runs on exactly one hart; no hart
-- is marked. The list last answered for each existing world means its view with the fewest entries,
-- and so does the list last loaded by each hart, for the view of its world. Each trap has the
-- properties above
pub record FirmwareHeadline (layout : PlatformLayout) (opened read written : List ℕ)
    (s : MonitorState) (served : ServesTraps (opening_monitor layout) read written s) : Type 0 where
  pub table : IsTable s.table
  pub platform : s.table.layout ≡ layout
  pub worlds : ArePlaced s
  pub awake : AreAwake s
  pub lists : (world : World) → IsThere s.table world
      → HasFewest (list_last opened served (world_number world)) layout.limit
      (current_view s.table world)
  pub banks : (hart : ℕ) → hart < layout.harts
      → HasFewest (loaded_last opened served hart) layout.limit
      (current_view s.table (s.worlds hart))
  pub each : AreKept served
