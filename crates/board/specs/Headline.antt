-- The properties of a board after boot and any list of events.
use Rattle.std.specs.Prelude.{◌≡◌, ◌≢◌, ◌⊎◌, ℕ, ◌/◌, ◌<◌, true, if◌then◌else◌, List, [], ◌++◌}
use Rattle.std.specs.Prelude.{zero, suc, ◌==◌, ◌&&◌, false, None, Result, Ok, Err, ⊤}
use Rattle.pmp_match.specs.declared.access.Access.{Access}
use Rattle.pmp_match.specs.Accesses.{Reaches}
use Rattle.pmp_match.specs.declared.access.Kind.TheVariants.{Store}
use Rattle.pmp_match.specs.declared.cause.Cause.{Cause}
use Rattle.sbi_decode.specs.declared.world.World.TheVariants.{Host, Enclave as InEnclave}
use Rattle.sbi_decode.specs.Runners.{Runner, EnclaveOf, runner_of}
use Rattle.sbi_decode.specs.declared.world.World.{World}
use Rattle.sbi_decode.specs.Registers.{RegisterFile}
use Rattle.measurement.specs.Requests.{is_private}
use Rattle.platforms.specs.Platform.{PlatformLayout}
use Rattle.platforms.specs.Ranges.{has_page}
use Rattle.enclave_table.specs.Enclaves.{Live, enclave_at}
use Rattle.enclave_table.specs.Tables.{IsTable}
use Rattle.enclave_table.specs.Views.{current_view}
use Rattle.enclave_table.specs.declared.enclave.Enclave.{Enclave}
use Rattle.enclave_table.specs.declared.enclave.Stage.TheVariants.{Fresh}
use Rattle.monitor_core.specs.Changes.{is_host, is_same}
use Rattle.monitor_core.specs.States.{opening_monitor}
use Rattle.monitor_core.specs.Switches.{HasExited, IsGone, KeepsRegisters, runner_on}
use Rattle.monitor_core.specs.Worlds.{ArePlaced}
use Rattle.hart_sim.specs.Memory.{measured_in}
use Rattle.hart_sim.specs.Steps.{verdict}
use Rattle.trap_server.specs.declared.trap.Trap.{Trap}
use Rattle.trap_server.specs.Answered.{AreAwake}
use Rattle.trap_server.specs.Firmware.{AreThose, HasFewest, list_last}
use Rattle.trap_server.specs.Runs.{ServesTraps}
use Rattle.trap_server.specs.Tables.{enclave_words}
use Rattle.trap_server.specs.declared.words.ControlWords.{ControlWords}
use Rattle.board.specs.Board.{Board, BoardEvent, BoardRun, Floats, HasEnded, HasMemory}
use Rattle.board.specs.Board.{access, aside, booted, computed, framed, gone_on, happened, no_floats}
use Rattle.board.specs.Board.{parks, saved, starts, trapped, wrote}
use Rattle.board.specs.Held.{CanHold, Confines, held}

-- the floating-point registers of a host or an enclave, given those of each hart and those stored:
-- those of the hart below n on which it runs, or the stored ones if it runs on none of them
abbrev pub floats_below : ℕ → (ℕ → World) → (ℕ → Floats) → (Runner → Floats) → Runner → Floats
floats_below zero worlds floats kept who = kept who
floats_below (suc n) worlds floats kept who = if is_same who (runner_of n (worlds n)) then floats n
    else floats_below n worlds floats kept who

-- the floating-point registers of a host or an enclave on a board
abbrev pub floats_of : Board → Runner → Floats
floats_of board who = floats_below board.monitor.table.layout.harts board.monitor.worlds
    board.floats board.kept who

-- the control words of the host of a hart: the hart's own while the host runs there, and the stored
-- ones while an enclave runs
abbrev pub host_control : Board → ℕ → ControlWords
host_control board hart = if is_host (board.monitor.worlds hart) then board.control hart
    else board.hosts hart

-- a byte of a page that is private to an enclave
abbrev pub IsPrivateByte : Board → ℕ → Enclave → ℕ → Type 0
IsPrivateByte board id e byte = Live board.monitor.table id e
    × (is_private e.parts (byte / 4096) ≡ true)

-- a byte of a page of the monitor
abbrev pub IsMonitorByte : Board → ℕ → Type 0
IsMonitorByte board byte = has_page board.monitor.table.layout.monitor (byte / 4096) ≡ true

-- the access is an allowed store by that enclave, and reaches the byte
pub record IsOwnStore (board : Board) (hart : ℕ) (a : Access) (said : Result (Unit {0}) Cause)
    (id byte : ℕ) : Type 0 where
  pub store : a.kind ≡ Store
  pub allowed : said ≡ Ok tt
  pub own : board.monitor.worlds hart ≡ InEnclave id
  pub reaches : Reaches a byte

-- the effect of an access: the entries of its hart give the verdict of its world's view. An access
-- to a private page of an enclave by any other world is a fault, and so is any access to a page of
-- the monitor. Only the enclave's own stores change a byte of such a private page. No register
-- changes
pub record KeepsAccess (old : Board) (hart : ℕ) (a : Access) (said : Result (Unit {0}) Cause)
    (new : Board) : Type 0 where
  pub by_view : said ≡ verdict (current_view old.monitor.table (old.monitor.worlds hart)) a
  pub denied : (id byte : ℕ) (e : Enclave) → IsPrivateByte old id e byte → Reaches a byte
      → old.monitor.worlds hart ≢ InEnclave id → (cause : Cause) × (said ≡ Err cause)
  pub closed : (byte : ℕ) → IsMonitorByte old byte → Reaches a byte
      → (cause : Cause) × (said ≡ Err cause)
  pub private : (id byte : ℕ) (e : Enclave) → IsPrivateByte old id e byte
      → (new.memory byte ≡ old.memory byte) ⊎ IsOwnStore old hart a said id byte
  pub running : (other : ℕ) → new.running other ≡ old.running other
  pub floats : (who : Runner) → floats_of new who ≡ floats_of old who

-- an event other than an access or a trap of the loop does not change the state of the monitor with
-- its register sets, memory, or the registers of any other world
pub record LeavesOthers (old : Board) (hart : ℕ) (new : Board) : Type 0 where
  pub monitor : new.monitor ≡ old.monitor
  pub memory : HasMemory new old.memory
  pub running : (other : ℕ) → other ≢ hart → new.running other ≡ old.running other
  pub floats : (who : Runner) → who ≢ runner_on old.monitor hart
      → floats_of new who ≡ floats_of old who

-- the world of a hart has these registers
abbrev pub HasRegisters : Board → ℕ → RegisterFile → Floats → Type 0
HasRegisters board hart file floats = (board.running hart ≡ file)
    × (floats_of board (runner_on board.monitor hart) ≡ floats)

-- an enclave that exists now but did not exist before
abbrev pub IsNew : Board → Board → Runner → Type 0
IsNew old new who = (id : ℕ) × (e : Enclave) × (who ≡ EnclaveOf id)
    × (enclave_at old.monitor.table.enclaves id ≡ None) × Live new.monitor.table id e

-- the effect of a trap on floating-point registers: a new enclave has zeros, one that ended leaves
-- zeros, and all other hosts and enclaves keep their values, on whichever hart they resume
pub record KeepsFloats (old new : Board) : Type 0 where
  pub begins : (who : Runner) → IsNew old new who → floats_of new who ≡ no_floats
  pub ends : (who : Runner) → HasEnded old.monitor new.monitor who
      → floats_of new who ≡ no_floats
  pub stays : (who : Runner) → (IsNew old new who → ⊥)
      → (HasEnded old.monitor new.monitor who → ⊥) → floats_of new who ≡ floats_of old who

-- the effect of a trap on memory. A byte of a page that is private to an enclave before and after
-- the trap is unchanged. If an enclave was destroyed, each byte of its private pages is zero, and
-- every other byte is unchanged; otherwise all of memory is unchanged. A new enclave has the digest
-- of its private pages as they are in memory at that moment
pub record KeepsMemory (old new : Board) : Type 0 where
  pub private : (id byte : ℕ) (e f : Enclave) → IsPrivateByte old id e byte
      → IsPrivateByte new id f byte → new.memory byte ≡ old.memory byte
  pub zeroes : (id : ℕ) (gone : IsGone old.monitor new.monitor id) (byte : ℕ)
      → is_private gone.0.parts (byte / 4096) ≡ true → new.memory byte ≡ 0
  pub keeps : (id : ℕ) (gone : IsGone old.monitor new.monitor id) → HasMemory new
      (λ byte. if is_private gone.0.parts (byte / 4096) then 0 else old.memory byte)
  pub stays : ((id : ℕ) → IsGone old.monitor new.monitor id → ⊥) → HasMemory new old.memory
  pub digest : (id : ℕ) (e : Enclave) → enclave_at old.monitor.table.enclaves id ≡ None
      → Live new.monitor.table id e → e.digest ≡ measured_in old.memory e.parts

-- the effect of a trap on integer registers. The world that trapped keeps its registers unless it
-- exited: after a call the program counter is past it, and a0 and a1 may contain the answer. All
-- other sets are unchanged, except those of a world that enters, returns or ends. The world that
-- resumes gets its set, and each other hart keeps its registers
pub record KeepsSets (old : Board) (trap : Trap) (new : Board) : Type 0 where
  pub registers : KeepsRegisters (saved old trap) trap.hart new.monitor
  pub came :
      ((id : ℕ) → runner_on old.monitor trap.hart ≡ EnclaveOf id
      → HasExited old.monitor new.monitor id → ⊥)
      → AreThose trap.event (old.running trap.hart)
      (new.monitor.registers (runner_on old.monitor trap.hart))
  pub resumes : new.running trap.hart
      ≡ new.monitor.registers (runner_on new.monitor trap.hart)
  pub others : (other : ℕ) → other ≢ trap.hart → new.running other ≡ old.running other

-- the effect of a trap on control words. Each host keeps its own: one that runs on, one that is
-- suspended, and one that resumes after an enclave. An enclave that its host enters gets its own
-- words, derived from two of the host's. On each hart whose world does not change they are
-- unchanged
pub record KeepsControl (old : Board) (trap : Trap) (new : Board) : Type 0 where
  pub hosts : (hart : ℕ) → host_control new hart ≡ host_control old hart
  pub enters : (id : ℕ) → old.monitor.worlds trap.hart ≡ Host
      → new.monitor.worlds trap.hart ≡ InEnclave id
      → new.control trap.hart
      ≡ held (old.csrs trap.hart) (enclave_words (framed (old.control trap.hart)))
  pub stays : (hart : ℕ) → new.monitor.worlds hart ≡ old.monitor.worlds hart
      → new.control hart ≡ old.control hart

-- the effect of an event. After a trap that its hart serves without the loop, an enclave resumes
-- with all of its registers
abbrev pub Keeps : BoardEvent → Board → Board → Type 0
Keeps (access hart a value said) old new = KeepsAccess old hart a said new
Keeps (computed hart file floats) old new = LeavesOthers old hart new
    × HasRegisters new hart file floats
Keeps (wrote hart words) old new = LeavesOthers old hart new
    × HasRegisters new hart (old.running hart) (floats_of old (runner_on old.monitor hart))
Keeps (aside hart on) old new = LeavesOthers old hart new
    × HasRegisters new hart (gone_on on (old.running hart))
    (floats_of old (runner_on old.monitor hart))
    × (old.monitor.worlds hart ≢ Host → new.running hart ≡ old.running hart)
Keeps (parks hart) old new = LeavesOthers old hart new
Keeps (starts hart file words) old new = LeavesOthers old hart new
    × HasRegisters new hart file no_floats
Keeps (trapped trap frame read question answered) old new = KeepsMemory old new
    × KeepsFloats old new × KeepsSets old trap new × KeepsControl old trap new

-- each event of a run has its effect
abbrev pub EachKeeps : {layout : PlatformLayout} {opened : List ℕ} {events : List BoardEvent}
    {board : Board} → BoardRun layout opened events board → Type 0
EachKeeps (booted board begins) = ⊤
EachKeeps (happened {old = old} {new = new} run event happens) = EachKeeps run × Keeps event old new

-- the bytes that an event reads: the frame of a trap that the loop serves, and its pages
abbrev pub read_in : BoardEvent → List ℕ
read_in (trapped trap frame read question answered) = frame ++ read
read_in _ = []

-- the bytes that an event writes: the answer, and the question for pages
abbrev pub written_in : BoardEvent → List ℕ
written_in (trapped trap frame read question answered) = answered ++ question
written_in _ = []

-- the bytes that were read in a run
abbrev pub read_on : {layout : PlatformLayout} {opened : List ℕ} {events : List BoardEvent}
    {board : Board} → BoardRun layout opened events board → List ℕ
read_on (booted board begins) = []
read_on (happened run event happens) = read_on run ++ read_in event

-- the bytes that were written in a run
abbrev pub written_on : {layout : PlatformLayout} {opened : List ℕ} {events : List BoardEvent}
    {board : Board} → BoardRun layout opened events board → List ℕ
written_on (booted board begins) = []
written_on (happened run event happens) = written_on run ++ written_in event

-- the traps are a run of the loop, which read and wrote these bytes, and the stored list of each
-- world is the one from the answers
pub record IsServed (layout : PlatformLayout) (opened read written : List ℕ) (board : Board) :
    Type 0 where
  pub served : ServesTraps (opening_monitor layout) read written board.monitor
  pub keeps : (world : ℕ) → board.lists world ≡ list_last opened served world

-- an enclave that has not been entered has the digest of its private pages as they are in memory,
-- so it has that digest when it is entered
abbrev pub AreMeasured : Board → Type 0
AreMeasured board = (id : ℕ) (e : Enclave) → Live board.monitor.table id e → e.state ≡ Fresh
    → e.digest ≡ measured_in board.memory e.parts

-- a hart that runs an enclave has the control words of an enclave, derived from two of those stored
-- for its host, as far as the hart can hold them, except status; and they confine the enclave
abbrev pub HaveOwnControl : Board → Type 0
HaveOwnControl board = (hart id : ℕ) → board.monitor.worlds hart ≡ InEnclave id
    → (board.control hart
    ≡ record (held (board.csrs hart) (enclave_words (framed (board.hosts hart)))) {
      status = (board.control hart).status;
    })
    × Confines (board.control hart)

-- the control words of a host after an event: those that it wrote, or those with which its hart was
-- started, otherwise those from before
abbrev pub control_by : BoardEvent → Board → ℕ → ControlWords → ControlWords
control_by (wrote at words) old hart had =
    if hart == at && is_host (old.monitor.worlds at) then words else had
control_by (starts at file words) old hart had = if hart == at then words else had
control_by _ old hart had = had

-- the control words that the host of a hart wrote last, or with which its hart was started since
abbrev pub wrote_last : {layout : PlatformLayout} {opened : List ℕ} {events : List BoardEvent}
    {board : Board} → BoardRun layout opened events board → ℕ → ControlWords
wrote_last (booted board begins) hart = board.control hart
wrote_last (happened {old = old} run event happens) hart =
    control_by event old hart (wrote_last run hart)

-- after any events: the traps among them are a run of the loop that read and wrote these bytes. The
-- table is sound, and the platform is the one that was booted. Each hart is in the world of the
-- host or of a Running enclave, each of which runs on exactly one hart; no hart needs to be woken.
-- The entries of each hart that is not parked mean the view of its world, with the fewest entries
-- possible. Each hart has the floating-point registers of its world. Each host has the control
-- words that it wrote last, and its hart can hold them; a running enclave has those of an enclave.
-- The digest of an enclave is that of the bytes with which it first runs. And each event has its
-- effect
pub record BoardHeadline (layout : PlatformLayout) (opened : List ℕ) (events : List BoardEvent)
    (board : Board) (run : BoardRun layout opened events board) : Type 0 where
  pub served : IsServed layout opened (read_on run) (written_on run) board
  pub table : IsTable board.monitor.table
  pub platform : board.monitor.table.layout ≡ layout
  pub worlds : ArePlaced board.monitor
  pub awake : AreAwake board.monitor
  pub banks : (hart : ℕ) → hart < layout.harts → board.parked hart ≡ false
      → HasFewest (board.loaded hart) layout.limit
      (current_view board.monitor.table (board.monitor.worlds hart))
  pub floats : (hart : ℕ) → hart < layout.harts
      → board.floats hart ≡ floats_of board (runner_on board.monitor hart)
  pub hosts : (hart : ℕ) → host_control board hart ≡ wrote_last run hart
  pub legal : (hart : ℕ) → CanHold (board.csrs hart) (host_control board hart)
  pub control : HaveOwnControl board
  pub measured : AreMeasured board
  pub each : EachKeeps run
