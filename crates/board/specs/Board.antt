-- A board: harts that load lists of PMP entries from the monitor's answers, memory, and worlds that
-- run between traps.
use Rattle.std.specs.Prelude.{◌≡◌, ◌≢◌, ◌⊎◌, ℕ, ◌*◌, ◌/◌, ◌<◌, ◌==◌, if◌then◌else◌, ⊤}
use Rattle.std.specs.Prelude.{Bool, true, false, List, [], ◌++◌, ◌∷◌, drop, length, Option, None}
use Rattle.std.specs.Prelude.{Some, Result, Ok, Err}
use Rattle.pmp_encoding.specs.declared.region.Entry.{Entry}
use Rattle.pmp_encoding.specs.Limits.{limit_number}
use Rattle.pmp_encoding.specs.Lists.{MeansList}
use Rattle.pmp_match.specs.declared.access.Access.{Access}
use Rattle.pmp_match.specs.declared.access.Kind.{Kind}
use Rattle.pmp_match.specs.declared.access.Kind.TheVariants.{Fetch, Load, Store}
use Rattle.pmp_match.specs.declared.access.Mode.TheVariants.{Machine}
use Rattle.pmp_match.specs.declared.cause.Cause.{Cause}
use Rattle.pmp_match.specs.Judgement.{Judges}
use Rattle.measurement.specs.Digests.{pages_from}
use Rattle.platforms.specs.Platform.{PlatformLayout, is_ram}
use Rattle.platforms.specs.Ranges.{has_page}
use Rattle.sbi_decode.specs.Registers.{RegisterFile, with_x}
use Rattle.sbi_decode.specs.Runners.{Runner, HostOf, EnclaveOf}
use Rattle.sbi_decode.specs.declared.world.World.{World}
use Rattle.sbi_decode.specs.declared.world.World.TheVariants.{Host, Enclave as InEnclave}
use Rattle.monitor_core.specs.States.{MonitorState, opening_monitor}
use Rattle.monitor_core.specs.Switches.{HasExited, IsGone, runner_on}
use Rattle.hart_sim.specs.Memory.{bytes_at, stored, zeroed}
use Rattle.trap_server.specs.declared.trap.Trap.{Trap}
use Rattle.trap_server.specs.declared.host_words.HostWords.{HostWords}
use Rattle.trap_server.specs.declared.words.ControlWords.{ControlWords}
use Rattle.trap_server.specs.Firmware.{list_after, loaded_after, loaded_pairs}
use Rattle.trap_server.specs.Given.{said_words}
use Rattle.board.specs.Held.{CanHold, ControlRegisters, held}
use Rattle.trap_server.specs.PageDigest.{ArePages}
use Rattle.monitor_core.specs.Changes.{past_call, with_running}
use Rattle.monitor_core.specs.SetChanges.{changed}
use Rattle.monitor_core.specs.declared.set_changes.SetChanges.{SetChanges}
use Rattle.trap_server.specs.Service.{ServesAll}
use Rattle.trap_server.specs.Traps.{IsTrapFrame}
use Rattle.trap_server.specs.Words.{word_at}

-- the values of floating-point registers: f0 to f31 by number, then fcsr
abbrev pub Floats : Type 0
Floats = ℕ → ℕ

-- zero in each register
abbrev pub no_floats : Floats
no_floats n = 0

-- a board at one moment
pub record Board : Type 0 where
  -- the state of the monitor, with the register sets of all harts. The set of a running world has
  -- no meaning until its next trap
  pub monitor : MonitorState
  -- the byte at each address
  pub memory : ℕ → ℕ
  -- the bytes of the list of entries that is stored for each world by its number, 0 for the host,
  -- and of the list that each hart loaded last
  pub lists : ℕ → List ℕ
  pub loaded : ℕ → List ℕ
  -- true for a hart that the host has stopped, or has not started yet
  pub parked : ℕ → Bool
  -- the integer registers of each hart
  pub running : ℕ → RegisterFile
  -- the floating-point registers of each hart, and those stored for each host and enclave
  pub floats : ℕ → Floats
  pub kept : Runner → Floats
  -- the control registers of each hart, the words that it stores for its host while an enclave runs
  -- there, and the writable bits of these registers
  pub control : ℕ → ControlWords
  pub hosts : ℕ → ControlWords
  pub csrs : ℕ → ControlRegisters

-- a byte of the board's memory: its page is RAM and not the monitor's. Devices change their own
-- registers, and the code around the loop writes the monitor's pages, so neither is memory
pub record IsMemoryByte (layout : PlatformLayout) (byte : ℕ) : Type 0 where
  pub in_ram : is_ram layout (byte / 4096) ≡ true
  pub not_monitor : has_page layout.monitor (byte / 4096) ≡ false

-- the memory of a board has these bytes; every other byte may have any value
abbrev pub HasMemory : Board → (ℕ → ℕ) → Type 0
HasMemory board bytes = (byte : ℕ) → IsMemoryByte board.monitor.table.layout byte
    → board.memory byte ≡ bytes byte

-- the host or an enclave runs on a hart of the platform
pub record IsUp (board : Board) (hart : ℕ) : Type 0 where
  pub known : hart < board.monitor.table.layout.harts
  pub started : board.parked hart ≡ false

-- the PMP registers of a hart contain this list
abbrev pub HasEntries : Board → ℕ → List Entry → Type 0
HasEntries board hart entries = MeansList
    (loaded_pairs (board.loaded hart) 0 (limit_number board.monitor.table.layout.limit)) entries

-- the ways in which a world resumes after a trap that its hart serves without the loop
pub data Resumption : Type 0 where
  -- a host resumes after an SBI call, with these words in a0 and a1: the call set its timer,
  -- requested an interrupt or a fence on another hart, queried the SBI, or failed
  replied : (first second : ℕ) → Resumption
  -- a host resumes in its own handler, to which the trap was forwarded or delegated
  handled : (pc : ℕ) → Resumption
  -- any world resumes after an interrupt for machine mode: another hart requested a fence or an
  -- interrupt of this hart's host, or the host's timer expired
  resumed : Resumption

-- an event on a board
pub data BoardEvent : Type 0 where
  -- an access, with the value to store and the verdict of the entries
  access : (hart : ℕ) (a : Access) (value : ℕ) (said : Result (Unit {0}) Cause) → BoardEvent
  -- a computation that leaves these values in the registers of a hart
  computed : (hart : ℕ) (file : RegisterFile) (floats : Floats) → BoardEvent
  -- a write that leaves these words in the control registers of a hart
  wrote : (hart : ℕ) (words : ControlWords) → BoardEvent
  -- a trap that a hart serves without the loop
  aside : (hart : ℕ) (on : Resumption) → BoardEvent
  -- a host stops its hart
  parks : (hart : ℕ) → BoardEvent
  -- a host starts another hart, which begins with these registers and control words
  starts : (hart : ℕ) (file : RegisterFile) (words : ControlWords) → BoardEvent
  -- a trap that the loop serves, with the bytes of its frame and of its pages, the question for the
  -- pages, and the answer
  trapped : (trap : Trap) (frame read question answered : List ℕ) → BoardEvent

-- memory after an allowed access: a store writes its bytes, and other accesses change nothing
abbrev pub put_by : Kind → (ℕ → ℕ) → Access → ℕ → ℕ → ℕ
put_by Fetch memory a value = memory
put_by Load memory a value = memory
put_by Store memory a value = stored memory a.address a.size value

-- memory after an access, given the verdict of the entries: a fault changes nothing
abbrev pub memory_after : Result (Unit {0}) Cause → (ℕ → ℕ) → Access → ℕ → ℕ → ℕ
memory_after (Err cause) memory a value = memory
memory_after (Ok done) memory a value = put_by a.kind memory a value

-- a world below machine mode makes an access of any kind, address and value, and the entries of its
-- hart give the verdict. Only memory changes
pub record DoesAccess (old : Board) (hart : ℕ) (a : Access) (value : ℕ)
    (said : Result (Unit {0}) Cause) (new : Board) : Type 0 where
  pub up : IsUp old hart
  pub below : a.mode ≢ Machine
  pub entries : List Entry
  pub loaded : HasEntries old hart entries
  pub judged : Judges entries a said
  pub memory : HasMemory new (memory_after said old.memory a value)
  pub state : new ≡ record old { memory = new.memory }

-- the world of a hart computes any values for its integer and floating-point registers
pub record DoesCompute (old : Board) (hart : ℕ) (file : RegisterFile) (floats : Floats)
    (new : Board) : Type 0 where
  pub up : IsUp old hart
  pub memory : HasMemory new old.memory
  pub state : new ≡ record old {
    memory = new.memory;
    running = λ h. if h == hart then file else old.running h;
    floats = λ h. if h == hart then floats else old.floats h;
  }

-- the control words that a world may write over those of a hart. A host may write any. An enclave
-- runs in user mode, which can write none; but the hart records changes of the floating-point
-- registers in status
abbrev pub MayWrite : World → ControlWords → ControlWords → Type 0
MayWrite Host had words = ⊤
MayWrite (InEnclave id) had words = words ≡ record had { status = words.status }

-- the world of a hart writes other words to its control registers, which can hold them
pub record DoesWrite (old : Board) (hart : ℕ) (words : ControlWords) (new : Board) : Type 0 where
  pub up : IsUp old hart
  pub may : MayWrite (old.monitor.worlds hart) (old.control hart) words
  pub can : CanHold (old.csrs hart) words
  pub memory : HasMemory new old.memory
  pub state : new ≡ record old {
    memory = new.memory;
    control = λ h. if h == hart then words else old.control h;
  }

-- the registers with which a world resumes after a trap that is served without the loop
abbrev pub gone_on : Resumption → RegisterFile → RegisterFile
gone_on (replied first second) file = with_x (with_x (past_call file) 10 first) 11 second
gone_on (handled pc) file = record file { pc = pc }
gone_on resumed file = file

-- the resumptions that are possible for a world: an enclave resumes only after an interrupt
abbrev pub MayGoOn : World → Resumption → Type 0
MayGoOn Host on = ⊤
MayGoOn (InEnclave id) on = on ≡ resumed

-- a hart serves a trap without the loop. It changes only a0, a1 and the program counter of the host
-- that called, or enters the host's handler. The change of control words on entry to the host's
-- handler is a separate event
pub record DoesAside (old : Board) (hart : ℕ) (on : Resumption) (new : Board) : Type 0 where
  pub up : IsUp old hart
  pub may : MayGoOn (old.monitor.worlds hart) on
  pub memory : HasMemory new old.memory
  pub state : new ≡ record old {
    memory = new.memory;
    running = λ h. if h == hart then gone_on on (old.running h) else old.running h;
  }

-- a host stops its hart, where no world runs from then on
pub record DoesPark (old : Board) (hart : ℕ) (new : Board) : Type 0 where
  pub up : IsUp old hart
  pub host : old.monitor.worlds hart ≡ Host
  pub memory : HasMemory new old.memory
  pub state : new ≡ record old {
    memory = new.memory;
    parked = λ h. if h == hart then true else old.parked h;
  }

-- a parked hart is started. It loads the host's list. Its host begins with any integer registers
-- and control words, and with zeros in its floating-point registers
pub record DoesStart (old : Board) (hart : ℕ) (file : RegisterFile) (words : ControlWords)
    (new : Board) : Type 0 where
  pub known : hart < old.monitor.table.layout.harts
  pub was_parked : old.parked hart ≡ true
  pub host : old.monitor.worlds hart ≡ Host
  pub can : CanHold (old.csrs hart) words
  pub memory : HasMemory new old.memory
  pub state : new ≡ record old {
    memory = new.memory;
    loaded = λ h. if h == hart then old.lists 0 else old.loaded h;
    parked = λ h. if h == hart then false else old.parked h;
    running = λ h. if h == hart then file else old.running h;
    floats = λ h. if h == hart then no_floats else old.floats h;
    control = λ h. if h == hart then words else old.control h;
  }

-- the host or enclave that resumes on a hart, by the world's number in an answer: 0 is the host of
-- that hart
abbrev pub runner_by : ℕ → ℕ → Runner
runner_by hart world = if world == 0 then HostOf hart else EnclaveOf world

-- a trap reports that this enclave was created: it asked for pages, and the value of the answer is
-- the enclave's number
abbrev pub SaysMade : List ℕ → List ℕ → Runner → Type 0
SaysMade question answered who = (question ≢ []) × (who ≡ EnclaveOf (word_at answered 4))

-- an enclave that is destroyed or has exited
abbrev pub HasEnded : MonitorState → MonitorState → Runner → Type 0
HasEnded old new who = (id : ℕ) × (who ≡ EnclaveOf id)
    × (IsGone old new id ⊎ HasExited old new id)

-- floating-point registers across a trap. If word 2 of the answer names another world, the hart's
-- registers are stored for the world that trapped, and the hart gets those stored for the other
-- world. Zeros are stored for an enclave that was created, and for one that ended, whose integer
-- registers are zeroed too. Nothing else changes
pub record ChangesFloats (old : Board) (hart : ℕ) (who next : Runner)
    (question answered : List ℕ) (new : Board) : Type 0 where
  pub goes_on : next ≡ who → new.floats hart ≡ old.floats hart
  pub leaves : next ≢ who → (HasEnded old.monitor new.monitor who → ⊥)
      → new.kept who ≡ old.floats hart
  pub enters : next ≢ who → new.floats hart ≡ old.kept next
  pub made : (other : Runner) → SaysMade question answered other → new.kept other ≡ no_floats
  pub ends : (other : Runner) → HasEnded old.monitor new.monitor other
      → new.kept other ≡ no_floats
  pub harts : (other : ℕ) → other ≢ hart → new.floats other ≡ old.floats other
  pub others : (other : Runner) → other ≢ who → (SaysMade question answered other → ⊥)
      → (HasEnded old.monitor new.monitor other → ⊥) → new.kept other ≡ old.kept other

-- control words across a trap, given the answer. If the answer has some, they are written to the
-- hart, whose own words are stored for its host. Otherwise the hart's words stay if the same world
-- resumes, and the stored ones are written to the hart if another world does. Other harts keep
-- theirs
pub record ChangesControl (old : Board) (hart : ℕ) (who next : Runner)
    (said : Option ControlWords) (new : Board) : Type 0 where
  pub gets : (words : ControlWords) → said ≡ Some words
      → new.control hart ≡ held (old.csrs hart) words
  pub leaves : (words : ControlWords) → said ≡ Some words → new.hosts hart ≡ old.control hart
  pub goes_on : said ≡ None → next ≡ who → new.control hart ≡ old.control hart
  pub comes_back : said ≡ None → next ≢ who
      → new.control hart ≡ held (old.csrs hart) (old.hosts hart)
  pub waits : said ≡ None → new.hosts hart ≡ old.hosts hart
  pub harts : (other : ℕ) → other ≢ hart → new.control other ≡ old.control other
  pub others : (other : ℕ) → other ≢ hart → new.hosts other ≡ old.hosts other

-- integer registers across a trap on a hart: the world that resumes gets those of its set, and each
-- other hart keeps its own
pub record ChangesRunning (old : Board) (hart : ℕ) (next : Runner) (new : Board) : Type 0 where
  pub resumes : new.running hart ≡ new.monitor.registers next
  pub others : (other : ℕ) → other ≢ hart → new.running other ≡ old.running other

-- the control words that are part of a trap's frame
abbrev pub framed : ControlWords → HostWords
framed words = record { mie = words.mie; scounteren = words.scounteren }

-- the frames of the pages that were read contain the bytes of memory, whichever pages they are
abbrev pub ReadsMemory : (ℕ → ℕ) → List ℕ → Type 0
ReadsMemory memory read =
    (first count : ℕ) (pages : List (List ℕ)) → ArePages first count read pages
    → pages ≡ pages_from (λ page. bytes_at memory (page * 4096) 4096) first count

-- the register sets at a trap: those of the world that trapped are saved in its own set. The frame
-- contains its a0 to a7
abbrev pub saved : Board → Trap → MonitorState
saved old trap = with_running old.monitor trap.hart trap.registers

-- the duties of the code around the loop at a trap that the loop serves, except reading pages
pub record TrapDuties (old : Board) (trap : Trap) (frame read question answered : List ℕ)
    (new : Board) : Type 0 where
  -- the loop reads a frame of this trap, on a hart that runs a world
  pub size : length frame ≡ 96
  pub is_trap : IsTrapFrame frame old.monitor.table.layout.harts trap
  pub started : old.parked trap.hart ≡ false
  -- the trap has the hart's registers, and two of the hart's control words if its host trapped
  pub came : trap.registers ≡ old.running trap.hart
  pub host : old.monitor.worlds trap.hart ≡ Host → trap.host ≡ framed (old.control trap.hart)
  -- the loop serves the trap, whatever the register sets are, and they change according to the
  -- answer
  pub changes : SetChanges
  pub served : ServesAll old.monitor trap changes read question answered new.monitor
  pub sets : new.monitor.registers ≡ changed trap.hart changes (saved old trap).registers
  -- the pages that words 6 and 7 of the answer name are zeroed, and no other byte of memory changes
  pub cleared : HasMemory new
      (zeroed old.memory (word_at answered 6) (word_at answered 7))
  -- the answer's lists are stored for their worlds. The hart that the answer names loads the list
  -- of the world that it names, and each hart that it wakes loads the host's, before its world
  -- resumes. A parked hart may have any list
  pub keeps : (world : ℕ) → new.lists world ≡ list_after answered old.lists world
  pub loads : (hart : ℕ) → old.parked hart ≡ false → new.loaded hart
      ≡ loaded_after answered new.lists (old.loaded hart) hart
  pub parked : new.parked ≡ old.parked
  -- registers change with the world of the hart
  pub running : ChangesRunning old trap.hart (runner_by trap.hart (word_at answered 2)) new
  pub floats : ChangesFloats old trap.hart (runner_on old.monitor trap.hart)
      (runner_by trap.hart (word_at answered 2)) question answered new
  pub control : ChangesControl old trap.hart (runner_on old.monitor trap.hart)
      (runner_by trap.hart (word_at answered 2)) (said_words answered) new
  pub csrs : new.csrs ≡ old.csrs

-- the loop serves a trap: the code around it does its duties, and reads pages from memory
pub record DoesTrap (old : Board) (trap : Trap) (frame read question answered : List ℕ)
    (new : Board) : Type 0 where
  pub duties : TrapDuties old trap frame read question answered new
  pub pages : ReadsMemory old.memory read

-- an event happens on a board
abbrev pub HappensOn : BoardEvent → Board → Board → Type 0
HappensOn (access hart a value said) old new = DoesAccess old hart a value said new
HappensOn (computed hart file floats) old new = DoesCompute old hart file floats new
HappensOn (wrote hart words) old new = DoesWrite old hart words new
HappensOn (aside hart on) old new = DoesAside old hart on new
HappensOn (parks hart) old new = DoesPark old hart new
HappensOn (starts hart file words) old new = DoesStart old hart file words new
HappensOn (trapped trap frame read question answered) old new =
    DoesTrap old trap frame read question answered new

-- a board right after boot: the monitor is in its opening state, the list of the first answer is
-- stored for each world, and each hart that is not parked has loaded it. Memory and registers have
-- any values that they can hold, and any harts are parked
pub record IsBooted (layout : PlatformLayout) (opened : List ℕ) (board : Board) : Type 0 where
  pub monitor : board.monitor ≡ opening_monitor layout
  pub lists : (world : ℕ) → board.lists world ≡ drop 184 opened
  pub loaded : (hart : ℕ) → board.parked hart ≡ false → board.loaded hart ≡ drop 184 opened
  pub control : (hart : ℕ) → CanHold (board.csrs hart) (board.control hart)

-- a sequence of events on a board, after boot
pub data BoardRun (layout : PlatformLayout) (opened : List ℕ) : List BoardEvent → Board
    → Type 0 where
  booted : (board : Board) → IsBooted layout opened board → BoardRun layout opened [] board
  happened : {events : List BoardEvent} {old new : Board} → BoardRun layout opened events old
      → (event : BoardEvent) → HappensOn event old new
      → BoardRun layout opened (events ++ event ∷ []) new
