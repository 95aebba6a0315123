-- An enclave that was not entered yet has the digest of its private pages as they are.
use Rattle.std.proofs.Common.{◌≡◌, ◌≢◌, ◌⊎◌, ◌∙◌, inl, inr, ℕ, zero, suc, ◌+◌, ◌-◌, ◌*◌, ◌/◌, ◌<◌, ◌≤◌, ◌==◌, ◌++◌, ◌∷◌, [], true, nat_le, nat_lt, List, length}
use Rattle.std.proofs.Common.{Option, Some, None, Result, refl, ap, sym, subst, arith}
use Rattle.std.proofs.lemmas.Bool.{and_from, both_ways, eq-eqb, eqb-true, le-leb, lt-ltb}
use Rattle.std.proofs.lemmas.Option.{same_Some}
use Rattle.pmp_encoding.specs.declared.pages.PageRange.{PageRange}
use Rattle.measurement.specs.Digests.{layout_of, pages_from}
use Rattle.measurement.specs.Measured.{digest_of}
use Rattle.measurement.specs.Requests.{is_private}
use Rattle.measurement.specs.declared.request.Create.{Create}
use Rattle.sbi_decode.specs.Calls.{call_of}
use Rattle.sbi_decode.specs.declared.world.World.{World}
use Rattle.sbi_decode.specs.declared.world.World.TheVariants.{Host, Enclave as InEnclave}
use Rattle.sbi_decode.specs.declared.calls.Call.{Call}
use Rattle.sbi_decode.specs.declared.calls.Call.TheVariants as calls
use Rattle.enclave_table.specs.Enclaves.{EnclaveTable, Live, enclave_at, with_enclave}
use Rattle.enclave_table.specs.Lives.{Turns}
use Rattle.enclave_table.specs.Tables.{IsCurrent, IsTable}
use Rattle.enclave_table.specs.declared.enclave.Enclave.{Enclave}
use Rattle.enclave_table.specs.declared.enclave.Stage.{Stage}
use Rattle.enclave_table.specs.declared.enclave.Stage.TheVariants.{Exited, Fresh, Running, Stopped}
use Rattle.enclave_table.proofs.Places.{live_above, live_inside, set_same, set_other}
use Rattle.monitor_core.specs.Changes.{past_call, with_running}
use Rattle.monitor_core.specs.States.{MonitorState, running_registers}
use Rattle.monitor_core.specs.Steps.{DoesCall, Interrupts}
use Rattle.monitor_core.specs.Worlds.{ArePlaced}
use Rattle.monitor_core.specs.declared.answer.Answer.{Answer}
use Rattle.monitor_core.proofs.Cases.{both}
use Rattle.monitor_core.proofs.Zeroed.{cleared, lost_call, lost_irq, private_of}
use Rattle.hart_sim.specs.Memory.{bytes_at, measured_in}
use Rattle.pmp_match.specs.declared.access.Access.{Access}
use Rattle.pmp_match.specs.declared.cause.Cause.{Cause}
use Rattle.trap_server.specs.declared.trap.TrapEvent.{TrapEvent}
use Rattle.trap_server.specs.declared.trap.TrapEvent.TheVariants as traps
use Rattle.trap_server.specs.declared.trap.Trap.{Trap}
use Rattle.monitor_core.specs.declared.set_changes.SetChanges.{SetChanges}
use Rattle.trap_server.specs.Service.{ServesAs}
use Rattle.board.proofs.Here.{served_here}
use Rattle.board.specs.Board.{Board, TrapDuties, HasMemory, saved}
use Rattle.board.specs.Headline.{AreMeasured, KeepsAccess, KeepsMemory}
use Rattle.board.specs.Stays.{KeepsFreshPages}
use Rattle.board.proofs.Made.{Absent}
use Rattle.board.proofs.Private.{private_memory}

-- where one place of a table is written, an enclave stands there, or where it stood
pub placed : (table new : EnclaveTable) (k id : ℕ) (slot : Option Enclave) (e : Enclave) → new ≡ with_enclave table k slot → 1 ≤ k
    → k - 1 < length table.enclaves → Live new id e → ((id ≡ k) × (slot ≡ Some e)) ⊎ Live table id e
placed table new k id slot e is above inside live = both (id == k)
    (λ yes.
    let same : id ≡ k = eqb-true id k yes in
    inl (
      same,
      sym (set_same table.enclaves k slot above inside) ∙ ap (enclave_at (with_enclave table k slot).enclaves) (sym same)
          ∙ ap (λ t. enclave_at t.enclaves id) (sym is) ∙ live,
    ))
    (λ no.
    let other : id ≢ k = λ same. both_ways (id == k) no (eq-eqb id k same) in
    inr (sym (set_other table.enclaves k id slot above other) ∙ ap (λ t. enclave_at t.enclaves id) (sym is) ∙ live))

-- one that is Fresh after another was turned was there before
turned : (table new : EnclaveTable) (k id : ℕ) (state : Stage) (e : Enclave) → Turns table k state new → state ≢ Fresh → Live new id e → e.state ≡ Fresh
    → Live table id e
turned table new k id state e t differs live fresh =
    let was = t.0 in
    elim (placed table new k id (Some (record was { state = state })) e t.2 (live_above table.enclaves k was t.1) (live_inside table.enclaves k was t.1) live) [
      | inl here ↦ absurd (differs (ap (λ (one : Enclave). one.state) (same_Some (record was { state = state }) e here.1) ∙ fresh))
      | inr there ↦ there
    ]

same_table : (table new : EnclaveTable) (id : ℕ) (e : Enclave) → new ≡ table → Live new id e → Live table id e
same_table table new id e is live = subst (λ t. Live t id e) is live

running_differs : Running ≢ Fresh
running_differs is = cc

stopped_differs : Stopped ≢ Fresh
stopped_differs is = cc

exited_differs : Exited ≢ Fresh
exited_differs is = cc

-- one that is Fresh after a call was there before, or is new
fresh_call :
    (call : Option Call) (digests : Create → List ℕ) (s : MonitorState) (hart : ℕ) (answer : Answer) (pages : Option PageRange) (new : MonitorState) (id : ℕ)
    (e : Enclave) → IsTable s.table → Live new.table id e → e.state ≡ Fresh
    → DoesCall call digests s hart answer pages new → Live s.table id e ⊎ Absent s.table id
fresh_call None digests s hart answer pages new id e right live fresh x = inl (same_table s.table new.table id e (ap (λ y. y.table) x.state) live)
fresh_call (Some (calls.Create base text_pages data_pages shared_base shared_count entry_offset)) digests s hart answer pages new id e right live fresh
    (inl x) =
    let free = x.2.next.free in
    let high = free.1 in
    let inside : x.0 - 1 < length s.table.enclaves = omega (arith, free.0, high, right.places) in
    elim (placed s.table new.table x.0 id _ e (ap (λ y. y.table) x.3.state ∙ x.2.added) free.0 inside live) [
      | inl here ↦ inr (ap (enclave_at s.table.enclaves) here.0 ∙ free.2)
      | inr there ↦ inl there
    ]
fresh_call (Some (calls.Create base text_pages data_pages shared_base shared_count entry_offset)) digests s hart answer pages new id e right live fresh
    (inr x) = inl (same_table s.table new.table id e (ap (λ y. y.table) x.2.state) live)
fresh_call (Some (calls.Destroy k)) digests s hart answer pages new id e right live fresh (inl x) =
    let g = x.2.passes.1.0 in
    elim (placed s.table new.table k id None e (ap (λ y. y.table) x.3.state ∙ x.2.removed) (live_above s.table.enclaves k g.0 g.1)
    (live_inside s.table.enclaves k g.0 g.1) live) [
      | inl here ↦ absurd (let z : None ≡ Some e = here.1 in cc)
      | inr there ↦ inl there
    ]
fresh_call (Some (calls.Destroy k)) digests s hart answer pages new id e right live fresh (inr x) = inl
    (same_table s.table new.table id e (ap (λ y. y.table) x.2.state) live)
fresh_call (Some (calls.Run k)) digests s hart answer pages new id e right live fresh (inl x) =
    inl (turned s.table x.1 k id Running e x.3.turned running_differs (subst (λ t. Live t id e) (ap (λ y. y.table) x.4.state) live) fresh)
fresh_call (Some (calls.Run k)) digests s hart answer pages new id e right live fresh (inr x) = inl
    (same_table s.table new.table id e (ap (λ y. y.table) x.2.state) live)
fresh_call (Some calls.Stop) digests s hart answer pages new id e right live fresh (inl x) =
    inl (turned s.table x.1 x.0 id Stopped e x.2.turned stopped_differs (subst (λ t. Live t id e) (ap (λ y. y.table) x.3.state) live) fresh)
fresh_call (Some calls.Stop) digests s hart answer pages new id e right live fresh (inr x) = inl
    (same_table s.table new.table id e (ap (λ y. y.table) x.2.state) live)
fresh_call (Some (calls.Resume k)) digests s hart answer pages new id e right live fresh (inl x) =
    inl (turned s.table x.1 k id Running e x.3.turned running_differs (subst (λ t. Live t id e) (ap (λ y. y.table) x.4.state) live) fresh)
fresh_call (Some (calls.Resume k)) digests s hart answer pages new id e right live fresh (inr x) = inl
    (same_table s.table new.table id e (ap (λ y. y.table) x.2.state) live)
fresh_call (Some (calls.Exit value)) digests s hart answer pages new id e right live fresh (inl x) =
    inl (turned s.table x.1 x.0 id Exited e x.2.turned exited_differs (subst (λ t. Live t id e) (ap (λ y. y.table) x.3.state) live) fresh)
fresh_call (Some (calls.Exit value)) digests s hart answer pages new id e right live fresh (inr x) = inl
    (same_table s.table new.table id e (ap (λ y. y.table) x.2.state) live)
fresh_call (Some (calls.Measure k n)) digests s hart answer pages new id e right live fresh (inl x) = inl
    (same_table s.table new.table id e (ap (λ y. y.table) x.2.state) live)
fresh_call (Some (calls.Measure k n)) digests s hart answer pages new id e right live fresh (inr x) = inl
    (same_table s.table new.table id e (ap (λ y. y.table) x.2.state) live)

fresh_irq : (world : World) (s : MonitorState) (hart : ℕ) (new : MonitorState) (id : ℕ) (e : Enclave) → Live new.table id e → e.state ≡ Fresh
    → Interrupts world s hart new → Live s.table id e
fresh_irq Host s hart new id e live fresh x = same_table s.table new.table id e (ap (λ y. y.table) x) live
fresh_irq (InEnclave k) s hart new id e live fresh x = turned s.table x.0 k id Stopped e x.1.turned stopped_differs
    (subst (λ t. Live t id e) (ap (λ y. y.table) x.2) live) fresh

fresh_served :
    (event : TrapEvent) (s : MonitorState) (trap : Trap) (changes : SetChanges) (read question answered : List ℕ)
    (new : MonitorState) (id : ℕ) (e : Enclave)
    → IsTable s.table → Live new.table id e → e.state ≡ Fresh
    → ServesAs event s trap changes read question answered new → Live s.table id e ⊎ Absent s.table id
fresh_served traps.Call s trap changes read question answered new id e right live fresh x =
    let file = past_call (running_registers s trap.hart) in
    let a = x.answers in
    let now : Live a.mid.table id e = subst (λ (y : MonitorState). Live y.table id e) a.woken live in
    fresh_call (call_of file) (λ parts. x.digest) (with_running s trap.hart file) trap.hart x.answer a.cleared a.mid id e right now fresh a.step
fresh_served traps.Stop s trap changes read question answered new id e right live fresh x =
    let now : Live x.mid.table id e = subst (λ (y : MonitorState). Live y.table id e) x.woken live in
    inl (fresh_irq (s.worlds trap.hart) s trap.hart x.mid id e now fresh x.step)

-- where an enclave is new none is gone
kept_call :
    (call : Option Call) (digests : Create → List ℕ) (s : MonitorState) (hart : ℕ) (answer : Answer) (pages : Option PageRange) (new : MonitorState) (id : ℕ)
    (e : Enclave) → Absent s.table id → Live new.table id e → DoesCall call digests s hart answer pages new
    → (other : ℕ) (g : Enclave) → Live s.table other g → Absent new.table other → ⊥
kept_call call digests s hart answer pages new id e none live x other g was gone =
    let wiped = lost_call call digests s hart answer pages new other g was gone x in
    elim (cleared call digests s hart answer pages new x) [
      | inl nothing ↦ let z : None ≡ Some (private_of g) = sym nothing ∙ wiped in absurd cc
      | inr some ↦
          let c = some.2 in
          elim (placed s.table new.table c.id id None e c.table (live_above s.table.enclaves c.id c.enclave c.live)
          (live_inside s.table.enclaves c.id c.enclave c.live) live) [
            | inl here ↦ let z : None ≡ Some e = here.1 in absurd cc
            | inr there ↦ let z : None ≡ Some e = sym none ∙ there in absurd cc
          ]
    ]

pub none_gone :
    (event : TrapEvent) (s : MonitorState) (trap : Trap) (changes : SetChanges) (read question answered : List ℕ)
    (new : MonitorState) (id : ℕ) (e : Enclave)
    → Absent s.table id → Live new.table id e → ServesAs event s trap changes read question answered new
    → (other : ℕ) (g : Enclave) → Live s.table other g → Absent new.table other → ⊥
none_gone traps.Call s trap changes read question answered new id e none live x other g was gone =
    let file = past_call (running_registers s trap.hart) in
    let a = x.answers in
    let now : Live a.mid.table id e = subst (λ (y : MonitorState). Live y.table id e) a.woken live in
    let lost : Absent a.mid.table other = subst (λ (y : MonitorState). Absent y.table other) a.woken gone in
    kept_call (call_of file) (λ parts. x.digest) (with_running s trap.hart file) trap.hart x.answer a.cleared a.mid id e none now a.step other g was lost
none_gone traps.Stop s trap changes read question answered new id e none live x other g was gone =
    let lost : Absent x.mid.table other = subst (λ (y : MonitorState). Absent y.table other) x.woken gone in
    lost_irq (s.worlds trap.hart) s trap.hart x.mid other g was lost x.step

-- the digest of the same bytes
pub same_bytes : (memory other : ℕ → ℕ) (address count : ℕ) → ((byte : ℕ) → address ≤ byte → byte < address + count → memory byte ≡ other byte)
    → bytes_at memory address count ≡ bytes_at other address count
unfolding bytes_at
same_bytes memory other address zero same = refl
same_bytes memory other address (suc count) same =
    let first : memory address ≡ other address = same address (omega arith) (omega arith) in
    let rest = same_bytes memory other (address + 1) count (λ byte low high. same byte (omega (arith, low)) (omega (arith, high))) in
    ap (λ byte. byte ∷ bytes_at memory (address + 1) count) first ∙ ap (λ bytes. other address ∷ bytes) rest

same_pages : (pages others : ℕ → List ℕ) (first count : ℕ) → ((page : ℕ) → first ≤ page → page < first + count → pages page ≡ others page)
    → pages_from pages first count ≡ pages_from others first count
same_pages pages others first zero same = refl
same_pages pages others first (suc count) same =
    let last : pages (first + count) ≡ others (first + count) = same (first + count) (omega arith) (omega arith) in
    let front = same_pages pages others first count (λ page low high. same page low (omega (arith, high))) in
    ap (λ page. pages_from pages first count ++ (page ∷ [])) last ∙ ap (λ before. before ++ (others (first + count) ∷ [])) front

same_measured : (memory other : ℕ → ℕ) (parts : Create) → ((byte : ℕ) → is_private parts (byte / 4096) ≡ true → memory byte ≡ other byte)
    → measured_in memory parts ≡ measured_in other parts
same_measured memory other parts same =
    let first = parts.base / 4096 in
    let count = parts.text_pages + parts.data_pages in
    ap (digest_of (layout_of parts))
    (same_pages (λ page. bytes_at memory (page * 4096) 4096) (λ page. bytes_at other (page * 4096) 4096) first count
    (λ page low high. same_bytes memory other (page * 4096) 4096 (λ byte from until.
    let here : byte / 4096 ≡ page = omega (arith, from, until) in
    let own : is_private parts page ≡ true = and_from (nat_le first page) (nat_lt page (first + count)) (le-leb first page low)
    (lt-ltb page (first + count) high) in
    same byte (ap (is_private parts) here ∙ own))))

-- over an access: who stores is Running
pub stays_over_access : (old : Board) (hart : ℕ) (a : Access) (said : Result (Unit {0}) Cause) (new : Board) → ArePlaced old.monitor
    → hart < old.monitor.table.layout.harts → KeepsAccess old hart a said new → KeepsFreshPages old new
stays_over_access old hart a said new placed known k = λ id byte e own fresh. elim (k.private id byte e own) [
  | inl stays ↦ stays
  | inr store ↦
      let current : IsCurrent old.monitor.table (InEnclave id) = subst (IsCurrent old.monitor.table) store.own (placed.current hart known) in
      let one : current.0 ≡ e = same_Some current.0 e (sym current.1 ∙ own.0) in
      absurd (running_differs (sym current.2 ∙ ap (λ (f : Enclave). f.state) one ∙ fresh))
]

pub measured_access : (old : Board) (hart : ℕ) (a : Access) (said : Result (Unit {0}) Cause) (new : Board) → ArePlaced old.monitor
    → hart < old.monitor.table.layout.harts → new.monitor ≡ old.monitor → KeepsAccess old hart a said new → AreMeasured old → AreMeasured new
measured_access old hart a said new placed known same k before = λ id e live fresh.
    let was : Live old.monitor.table id e = subst (λ (m : MonitorState). Live m.table id e) same live in
    before id e was fresh
    ∙ same_measured old.memory new.memory e.parts (λ byte own. sym (stays_over_access old hart a said new placed known k id byte e (was, own) fresh))

-- over an event that leaves the monitor and memory
pub measured_quiet : (old new : Board) → IsTable new.monitor.table → new.monitor ≡ old.monitor → HasMemory new old.memory → AreMeasured old
    → AreMeasured new
measured_quiet old new sound same memory before = λ id e live fresh.
    let was : Live old.monitor.table id e = subst (λ (m : MonitorState). Live m.table id e) same live in
    before id e was fresh ∙ same_measured old.memory new.memory e.parts
    (λ byte own. sym (memory byte (private_memory new.monitor.table id byte e sound live own)))

-- over the trap that made an enclave
pub stays_over_creation : (old : Board) (trap : Trap) (frame read question answered : List ℕ) (new : Board)
    → IsTable new.monitor.table → TrapDuties old trap frame read question answered new → KeepsMemory old new → (id byte : ℕ) (e : Enclave)
    → Absent old.monitor.table id → Live new.monitor.table id e → is_private e.parts (byte / 4096) ≡ true → new.memory byte ≡ old.memory byte
stays_over_creation old trap frame read question answered new sound x k id byte e none live own =
    let one = served_here old trap frame read question answered new x in
    k.stays (λ other gone. none_gone trap.event (saved old trap) trap x.changes read question answered new.monitor id e none live one
    other gone.0 gone.1 gone.2) byte (private_memory new.monitor.table id byte e sound live own)

-- over a trap
pub measured_trap : (old : Board) (trap : Trap) (frame read question answered : List ℕ) (new : Board) → IsTable old.monitor.table
    → IsTable new.monitor.table → TrapDuties old trap frame read question answered new → KeepsMemory old new → AreMeasured old → AreMeasured new
measured_trap old trap frame read question answered new right sound x k before = λ id e live fresh.
    let one = served_here old trap frame read question answered new x in
    elim (fresh_served trap.event (saved old trap) trap x.changes read question answered new.monitor id e right live fresh one) [
      | inl was ↦ before id e was fresh ∙ same_measured old.memory new.memory e.parts (λ byte own. sym (k.private id byte e e (was, own) (live, own)))
      | inr none ↦ k.digest id e none live ∙ same_measured old.memory new.memory e.parts
          (λ byte own. sym (stays_over_creation old trap frame read question answered new sound x k id byte e none live own))
    ]
