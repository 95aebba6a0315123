-- The privacy of an enclave.
use Rattle.std.specs.Prelude.{◌≡◌, ◌≢◌, ◌⊎◌, ℕ, ◌+◌, ◌/◌, ◌<◌, ◌≤◌, true, false, List, [], ◌∷◌, Ok}
use Rattle.std.specs.Prelude.{None, if◌then◌else◌}
use Rattle.pmp_encoding.specs.declared.perm.Perm.TheVariants.{NoAccess}
use Rattle.pmp_match.specs.declared.access.Kind.TheVariants.{Store}
use Rattle.pmp_match.specs.declared.access.Access.{Access}
use Rattle.pmp_match.specs.declared.access.Mode.TheVariants.{Machine}
use Rattle.pmp_match.specs.declared.cause.Cause.{Cause}
use Rattle.platforms.specs.Ranges.{has_page}
use Rattle.enclave_table.specs.Enclaves.{Live, enclave_at}
use Rattle.measurement.specs.Requests.{is_private}
use Rattle.enclave_table.specs.Views.{enclave_view, current_view}
use Rattle.enclave_table.specs.declared.enclave.Enclave.{Enclave}
use Rattle.enclave_table.specs.declared.enclave.Stage.TheVariants.{Running}
use Rattle.sbi_decode.specs.declared.world.World.TheVariants.{Enclave as InEnclave}
use Rattle.sbi_decode.specs.Runners.{Runner, EnclaveOf}
use Rattle.hart_trace.specs.declared.event.Event.{Event}
use Rattle.hart_trace.specs.declared.event.Event.TheVariants as events
use Rattle.hart_trace.specs.declared.reply.Reply.{Reply}
use Rattle.hart_trace.specs.declared.reply.Reply.TheVariants as replies
use Rattle.hart_sim.specs.States.{MachineState}
use Rattle.hart_sim.specs.Steps.{Step, verdict}

-- an enclave runs on a hart, which is then not marked
pub record RunsOn (s : MachineState) (hart id : ℕ) (e : Enclave) : Type 0 where
  pub known : hart < s.table.layout.harts
  pub world : s.worlds hart ≡ InEnclave id
  pub live : Live s.table id e
  pub running : e.state ≡ Running
  pub unmarked : s.marked hart ≡ false

-- the enclave cannot tell the two states apart: its parts and registers, and the bytes and written
-- pages of its view, are the same
pub record LooksSame (id : ℕ) (e f : Enclave) (s other : MachineState) : Type 0 where
  pub parts : e.parts ≡ f.parts
  pub registers : s.registers (EnclaveOf id) ≡ other.registers (EnclaveOf id)
  pub bytes : (address : ℕ) → enclave_view e.parts (address / 4096) ≢ NoAccess
      → s.bytes address ≡ other.bytes address
  pub written : (page : ℕ) → enclave_view e.parts page ≢ NoAccess
      → s.written page ≡ other.written page

-- only the enclave's registers, and bytes and pages of its view, changed
pub record ChangesOwn (id : ℕ) (e : Enclave) (old new : MachineState) : Type 0 where
  pub table : new.table ≡ old.table
  pub worlds : new.worlds ≡ old.worlds
  pub registers : (who : Runner) → who ≢ EnclaveOf id → new.registers who ≡ old.registers who
  pub bytes : (address : ℕ) → enclave_view e.parts (address / 4096) ≡ NoAccess
      → new.bytes address ≡ old.bytes address
  pub written : (page : ℕ) → enclave_view e.parts page ≡ NoAccess
      → new.written page ≡ old.written page
  pub marked : new.marked ≡ old.marked

-- the event is one of the enclave alone: an access, or a setting of a register
abbrev pub IsOwn : Event → Type 0
IsOwn (events.Access a value) = a.mode ≢ Machine
IsOwn (events.Reg n value) = n < 32
IsOwn (events.Ecall words) = ⊥
IsOwn events.Irq = ⊥

-- consecutive events on one hart, their replies, and the state after them
abbrev pub RunsThrough : ℕ → MachineState → List Event → List Reply → MachineState → Type 0
RunsThrough hart old [] [] new = new ≡ old
RunsThrough hart old (event ∷ events) (reply ∷ replies) new = (mid : MachineState)
    × Step old hart event reply mid × RunsThrough hart mid events replies new
RunsThrough hart old [] (reply ∷ replies) new = ⊥
RunsThrough hart old (event ∷ events) [] new = ⊥

-- each event is one of the enclave alone
abbrev pub AreOwn : List Event → Type 0
AreOwn [] = Unit {0}
AreOwn (event ∷ events) = IsOwn event × AreOwn events

-- if an enclave runs in two states that it cannot tell apart, any replies that it may get in one
-- state it may also get in the other, and then it still cannot tell the two apart; nothing else
-- changes in either
abbrev pub IsPrivate : Type 0
IsPrivate =
    (s other new : MachineState) (hart there id : ℕ) (e f : Enclave) (events : List Event)
    (replies : List Reply)
    → RunsOn s hart id e → RunsOn other there id f → LooksSame id e f s other → AreOwn events
    → RunsThrough hart s events replies new
    → (now : MachineState) × RunsThrough there other events replies now × LooksSame id e f new now
    × ChangesOwn id e s new × ChangesOwn id f other now

-- the event is a completed store by that enclave that its view allowed and that reached the byte
abbrev pub StoresTo : MachineState → ℕ → Event → Reply → ℕ → ℕ → Type 0
StoresTo old hart (events.Access a value) reply id byte =
    (a.kind ≡ Store) × (reply ≡ replies.Done) × (old.worlds hart ≡ InEnclave id)
    × (verdict (current_view old.table (old.worlds hart)) a ≡ Ok tt) × (a.address ≤ byte)
    × (byte < a.address + a.size)
StoresTo old hart _ reply id byte = ⊥

-- a byte of a page that is private to an enclave before and after an event is unchanged, except by
-- the enclave's own stores
abbrev pub KeepsPrivate : MachineState → ℕ → Event → Reply → MachineState → Type 0
KeepsPrivate old hart event reply new =
    (id byte : ℕ) (e f : Enclave) → Live old.table id e → Live new.table id f
    → is_private e.parts (byte / 4096) ≡ true → is_private f.parts (byte / 4096) ≡ true
    → (new.bytes byte ≡ old.bytes byte) ⊎ StoresTo old hart event reply id byte

-- an access by any other world to a page that is private to an enclave is a fault
abbrev pub DeniesOthers : MachineState → ℕ → Event → Reply → Type 0
DeniesOthers old hart event reply =
    (a : Access) (value id byte : ℕ) (e : Enclave) → event ≡ events.Access a value
    → Live old.table id e → is_private e.parts (byte / 4096) ≡ true
    → a.address ≤ byte → byte < a.address + a.size → old.worlds hart ≢ InEnclave id
    → (cause : Cause) × (reply ≡ replies.Fault cause)

-- an access by any world to a page of the monitor's range is a fault
abbrev pub DeniesMonitor : MachineState → Event → Reply → Type 0
DeniesMonitor old event reply =
    (a : Access) (value byte : ℕ) → event ≡ events.Access a value
    → has_page old.table.layout.monitor (byte / 4096) ≡ true
    → a.address ≤ byte → byte < a.address + a.size → (cause : Cause) × (reply ≡ replies.Fault cause)

-- if an enclave is destroyed, each byte of its private pages is zero, and every other byte is
-- unchanged
abbrev pub ZeroesDestroyed : MachineState → MachineState → Type 0
ZeroesDestroyed old new =
    (id : ℕ) (e : Enclave) → Live old.table id e → enclave_at new.table.enclaves id ≡ None
    → (byte : ℕ)
    → new.bytes byte ≡ (if is_private e.parts (byte / 4096) then 0 else old.bytes byte)
