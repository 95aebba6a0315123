-- What a step promises of accesses, and of the pages of an enclave that is destroyed.
use Rattle.std.proofs.Common.{◌≡◌, ◌≢◌, ◌↔◌, ◌∙◌, inl, inr, ℕ, ◌+◌, ◌/◌, ◌%◌, ◌^◌, ◌<◌, ◌≤◌, Bool, true, false, if◌then◌else◌, Result, Ok, Err, refl, ap, sym}
use Rattle.std.proofs.Common.{subst}
use Rattle.std.proofs.lemmas.Bool.{eq-eqb, lt-ltb, both_ways}
use Rattle.pmp_match.specs.declared.access.Access.{Access}
use Rattle.pmp_match.specs.declared.access.Kind.{Kind}
use Rattle.pmp_match.specs.declared.access.Kind.TheVariants.{Fetch, Load, Store}
use Rattle.pmp_match.specs.declared.cause.Cause.{Cause}
use Rattle.pmp_match.specs.Accesses.{IsAligned}
use Rattle.pmp_match.specs.Causes.{access_fault}
use Rattle.pmp_match.specs.Kinds.{holds}
use Rattle.enclave_table.specs.Enclaves.{Live, enclave_at}
use Rattle.platforms.specs.Ranges.{has_page}
use Rattle.measurement.specs.Requests.{is_private}
use Rattle.enclave_table.specs.Tables.{IsTable}
use Rattle.enclave_table.specs.declared.enclave.Enclave.{Enclave}
use Rattle.sbi_decode.specs.declared.world.World.TheVariants.{Enclave as InEnclave}
use Rattle.hart_trace.specs.declared.event.Event.{Event}
use Rattle.hart_trace.specs.declared.event.Event.TheVariants as events
use Rattle.hart_trace.specs.declared.reply.Reply.{Reply}
use Rattle.hart_trace.specs.declared.reply.Reply.TheVariants as replies
use Rattle.hart_sim.specs.States.{MachineState, core_of, view_on}
use Rattle.hart_sim.specs.Steps.{Step, Accesses, TakesEffect, verdict}
use Rattle.monitor_core.proofs.Zeroed.{not_lost, lost_call, lost_irq}
use Rattle.hart_sim.proofs.Asked.{awoken, named, asked, lent, core_access, is_zeroed}
use Rattle.hart_sim.specs.Privacy.{DeniesMonitor, DeniesOthers, ZeroesDestroyed}
use Rattle.hart_sim.proofs.Verdicts.{allowed_by, page_of_byte}
use Rattle.hart_sim.proofs.PrivateBytes.{nobody, only_itself}

no_fault : (kind : Kind) (s : MachineState) (a : Access) (value : ℕ) (reply : Reply) (new : MachineState) (cause : Cause) → TakesEffect kind s a value reply new
    → reply ≡ replies.Fault cause → ⊥
no_fault Fetch s a value reply new cause x is = let z = sym x.0 ∙ is in cc
no_fault Load s a value reply new cause x is = let z = sym x.0 ∙ is in cc
no_fault Store s a value reply new cause (inl x) is = let z = sym x.0 ∙ is in cc
no_fault Store s a value reply new cause (inr x) is = let z = sym x.0 ∙ is in cc

-- an aligned access inside the space is answered by no fault exactly where the current view holds its kind
pub allowed_by_view : (old : MachineState) (hart : ℕ) (a : Access) (value : ℕ) (reply : Reply) (new : MachineState) → IsAligned a → a.address < 2 ^ 56
    → Step old hart (events.Access a value) reply new
    → ((cause : Cause) → reply ≢ replies.Fault cause) ↔ (holds (view_on old hart (a.address / 4096)) a.kind ≡ true)
allowed_by_view old hart a value reply new aligned inside x = by_held (holds (view_on old hart (a.address / 4096)) a.kind) refl
  where
    by_held : (b : Bool) → holds (view_on old hart (a.address / 4096)) a.kind ≡ b
        → ((cause : Cause) → reply ≢ replies.Fault cause) ↔ (holds (view_on old hart (a.address / 4096)) a.kind ≡ true)
    by_held true e =
        let said : verdict (view_on old hart) a ≡ Ok tt = rw (eq-eqb (a.address % a.size) 0 aligned, lt-ltb a.address (2 ^ 56) inside, e) in
        let y : TakesEffect a.kind (awoken old hart) a value reply new = subst (λ v. Accesses v (awoken old hart) a value reply new) said x in
        ((λ no. e), (λ held cause is. no_fault a.kind (awoken old hart) a value reply new cause y is))
    by_held false e =
        let said : verdict (view_on old hart) a ≡ Err (access_fault a.kind) = rw (eq-eqb (a.address % a.size) 0 aligned, lt-ltb a.address (2 ^ 56) inside, e) in
        let y : Accesses (Err (access_fault a.kind)) (awoken old hart) a value reply new = subst (λ v. Accesses v (awoken old hart) a value reply new) said x in
        ((λ no. absurd (no (access_fault a.kind) y.0)), (λ held. absurd (both_ways (holds (view_on old hart (a.address / 4096)) a.kind) e held)))

-- no other world's access of a private page is allowed
denied_by : (old : MachineState) (hart : ℕ) (a : Access) (value : ℕ) (reply : Reply) (new : MachineState) (id byte : ℕ) (e : Enclave)
    (said : Result (Unit {0}) Cause) → verdict (view_on old hart) a ≡ said → IsTable old.table
    → Accesses said (awoken old hart) a value reply new → Live old.table id e → is_private e.parts (byte / 4096) ≡ true → a.address ≤ byte
    → byte < a.address + a.size → old.worlds hart ≢ InEnclave id → (cause : Cause) × (reply ≡ replies.Fault cause)
denied_by old hart a value reply new id byte e (Err cause) is right x live own low high other = (cause, x.0)
denied_by old hart a value reply new id byte e (Ok done) is right x live own low high other =
    let ok = allowed_by (view_on old hart) a is in
    let held : holds (view_on old hart (byte / 4096)) a.kind ≡ true = ap (λ q. holds (view_on old hart q) a.kind) (page_of_byte a byte ok.aligned low high)
    ∙ ok.held in
    absurd (other (only_itself old.table (old.worlds hart) id (byte / 4096) e a.kind right live own held))

pub denies_others : (old : MachineState) (hart : ℕ) (event : Event) (reply : Reply) (new : MachineState) → IsTable old.table → Step old hart event reply new
    → DeniesOthers old hart event reply
denies_others old hart event reply new right x = λ a value id byte e is live own low high other.
    let y : Step old hart (events.Access a value) reply new = subst (λ v. Step old hart v reply new) is x in
    denied_by old hart a value reply new id byte e (verdict (view_on old hart) a) refl right y live own low high other

-- no access that reaches a page of the monitor is allowed
closed_by : (old : MachineState) (hart : ℕ) (a : Access) (value : ℕ) (reply : Reply) (new : MachineState) (byte : ℕ) (said : Result (Unit {0}) Cause)
    → verdict (view_on old hart) a ≡ said → IsTable old.table
    → Accesses said (awoken old hart) a value reply new → has_page old.table.layout.monitor (byte / 4096) ≡ true → a.address ≤ byte → byte < a.address + a.size
    → (cause : Cause) × (reply ≡ replies.Fault cause)
closed_by old hart a value reply new byte (Err cause) is right x own low high = (cause, x.0)
closed_by old hart a value reply new byte (Ok done) is right x own low high =
    let ok = allowed_by (view_on old hart) a is in
    let held : holds (view_on old hart (byte / 4096)) a.kind ≡ true = ap (λ q. holds (view_on old hart q) a.kind) (page_of_byte a byte ok.aligned low high)
    ∙ ok.held in
    absurd (nobody old.table (old.worlds hart) (byte / 4096) a.kind right own held)

pub denies_monitor : (old : MachineState) (hart : ℕ) (event : Event) (reply : Reply) (new : MachineState) → IsTable old.table → Step old hart event reply new
    → DeniesMonitor old event reply
denies_monitor old hart event reply new right x = λ a value byte is own low high.
    let y : Step old hart (events.Access a value) reply new = subst (λ v. Step old hart v reply new) is x in
    closed_by old hart a value reply new byte (verdict (view_on old hart) a) refl right y own low high

-- the enclave that is no more was destroyed: its private bytes are zero, and all others as they were
pub zeroes_destroyed : (old : MachineState) (hart : ℕ) (event : Event) (reply : Reply) (new : MachineState) → Step old hart event reply new
    → ZeroesDestroyed old new
zeroes_destroyed old hart (events.Access a value) reply new x = λ id e live gone byte.
    absurd (not_lost old.table new.table id e (ap (λ c. c.table) (core_access (verdict (view_on old hart) a) (awoken old hart) a value reply new x)) live gone)
zeroes_destroyed old hart (events.Reg n value) reply new x = λ id e live gone byte. absurd (not_lost old.table new.table id e (ap (λ y. y.table) x.1) live gone)
zeroes_destroyed old hart (events.Ecall words) reply new x = λ id e live gone byte.
    let own = lost_call (named old hart words.items) (lent old) (asked old hart words.items) hart x.0 x.1 x.2 id e live
    (ap (λ t. enclave_at t.enclaves id) (sym (ap (λ y. y.table) x.4)) ∙ gone) x.3 in
    ap (λ y. y.bytes byte) x.4 ∙ ap (λ q. if is_zeroed q (byte / 4096) then 0 else old.bytes byte) own
zeroes_destroyed old hart events.Irq reply new x = λ id e live gone byte.
    absurd (lost_irq (old.worlds hart) (core_of (awoken old hart)) hart x.0 id e live
    (ap (λ t. enclave_at t.enclaves id) (sym (ap (λ y. y.table) x.2)) ∙ gone) x.1)
