-- An enclave that is new was created, with the digest of its parts.
use Rattle.std.proofs.Common.{◌≡◌, ◌≢◌, ◌∙◌, inl, inr, ℕ, ◌-◌, ◌<◌, ◌≤◌, ◌==◌, List, length, Option, Some, None, ap, sym, subst, refl, arith}
use Rattle.std.proofs.lemmas.Bool.{eq-eqb, eqb-true, both_ways}
use Rattle.std.proofs.lemmas.Option.{same_Some}
use Rattle.pmp_encoding.specs.declared.pages.PageRange.{PageRange}
use Rattle.measurement.specs.declared.request.Create.{Create}
use Rattle.measurement.specs.Requests.{parts_of}
use Rattle.sbi_decode.specs.declared.world.World.{World}
use Rattle.sbi_decode.specs.declared.world.World.TheVariants.{Host, Enclave as InEnclave}
use Rattle.sbi_decode.specs.declared.calls.Call.{Call}
use Rattle.sbi_decode.specs.declared.calls.Call.TheVariants as calls
use Rattle.enclave_table.specs.Create.{fresh}
use Rattle.enclave_table.specs.Enclaves.{EnclaveTable, Live, enclave_at, with_enclave}
use Rattle.enclave_table.specs.declared.enclave.Enclave.{Enclave}
use Rattle.enclave_table.specs.Tables.{IsTable}
use Rattle.enclave_table.proofs.Places.{live_above, set_same, set_other}
use Rattle.monitor_core.specs.Measured.{IsMade, asked_in}
use Rattle.monitor_core.specs.States.{MonitorState}
use Rattle.monitor_core.specs.Steps.{DoesCall, Interrupts}
use Rattle.monitor_core.specs.declared.answer.Answer.{Answer}
use Rattle.monitor_core.proofs.Cases.{both}

abbrev pub Absent : EnclaveTable → ℕ → Type 0
Absent table id = enclave_at table.enclaves id ≡ None

-- it was created: these are the parts that were asked for, and the digest is theirs
abbrev pub IsCreated : Option Create → Answer → (Create → List ℕ) → Enclave → Type 0
IsCreated asked answer digests e = IsMade asked answer e.parts × (e.digest ≡ digests e.parts)

-- where the table stays none is new
pub same_table : (table new : EnclaveTable) (id : ℕ) (e : Enclave) → new ≡ table → Absent table id → Live new id e → ⊥
same_table table new id e same none live = let z : None ≡ Some e = sym none ∙ ap (λ t. enclave_at t.enclaves id) (sym same) ∙ live in cc

-- nor where what changes is the place of one that was there
changed : (table new : EnclaveTable) (k id : ℕ) (slot : Option Enclave) (was e : Enclave) → new ≡ with_enclave table k slot → Live table k was → Absent table id
    → Live new id e → ⊥
changed table new k id slot was e is there none live =
    let other : id ≢ k = λ same. let z : None ≡ Some was = sym none ∙ subst (λ n. enclave_at table.enclaves n ≡ Some was) (sym same) there in cc in
    let z : None ≡ Some e = sym none ∙ sym (set_other table.enclaves k id slot (live_above table.enclaves k was there) other)
    ∙ ap (λ t. enclave_at t.enclaves id) (sym is) ∙ live in cc

-- the one that a creation makes
created : (table new : EnclaveTable) (k id : ℕ) (made e : Enclave) → new ≡ with_enclave table k (Some made) → 1 ≤ k → k - 1 < length table.enclaves
    → Absent table id → Live new id e → made ≡ e
created table new k id made e is above inside none live = both (id == k)
    (λ yes.
    let same : id ≡ k = eqb-true id k yes in
    same_Some made e (sym (set_same table.enclaves k (Some made) above inside) ∙ ap (enclave_at (with_enclave table k (Some made)).enclaves) (sym same)
    ∙ ap (λ t. enclave_at t.enclaves id) (sym is) ∙ live))
    (λ no.
    let other : id ≢ k = λ same. both_ways (id == k) no (eq-eqb id k same) in
    let z : None ≡ Some e = sym none ∙ sym (set_other table.enclaves k id (Some made) above other) ∙ ap (λ t. enclave_at t.enclaves id) (sym is)
    ∙ live in absurd cc)

pub made_call :
    (call : Option Call) (digests : Create → List ℕ) (s : MonitorState) (hart : ℕ) (answer : Answer) (zero : Option PageRange) (new : MonitorState) (id : ℕ)
    (e : Enclave) → IsTable s.table → Absent s.table id → Live new.table id e
    → DoesCall call digests s hart answer zero new → IsCreated (asked_in call) answer digests e
made_call None digests s hart answer zero new id e right none live x = absurd (same_table s.table new.table id e (ap (λ y. y.table) x.state) none live)
made_call (Some (calls.Create base text_pages data_pages shared_base shared_count entry_offset)) digests s hart answer zero new id e right none live (inl x) =
    let asked : Create = record {
      base = base;
      text_pages = text_pages;
      data_pages = data_pages;
      shared_base = shared_base;
      shared_count = shared_count;
      entry_offset = entry_offset;
    } in
    let free = x.2.next.free in
    let high = free.1 in
    let inside : x.0 - 1 < length s.table.enclaves = omega (arith, free.0, high, right.places) in
    let same = created s.table new.table x.0 id (fresh digests (parts_of asked)) e (ap (λ y. y.table) x.3.state ∙ x.2.added) free.0 inside none live in
    subst (IsCreated (Some asked) answer digests) same ((refl, ap (λ a. a.status) x.3.told), refl)
made_call (Some (calls.Create base text_pages data_pages shared_base shared_count entry_offset)) digests s hart answer zero new id e right none live
    (inr x) = absurd (same_table s.table new.table id e (ap (λ y. y.table) x.2.state) none live)
made_call (Some (calls.Destroy k)) digests s hart answer zero new id e right none live (inl x) =
    let g = x.2.passes.1.0 in
    absurd (changed s.table new.table k id None g.0 e (ap (λ y. y.table) x.3.state ∙ x.2.removed) g.1 none live)
made_call (Some (calls.Destroy k)) digests s hart answer zero new id e right none live (inr x) = absurd
    (same_table s.table new.table id e (ap (λ y. y.table) x.2.state) none live)
made_call (Some (calls.Run k)) digests s hart answer zero new id e right none live (inl x) =
    let t = x.3.turned in
    absurd (changed s.table new.table k id _ t.0 e (ap (λ y. y.table) x.4.state ∙ t.2) t.1 none live)
made_call (Some (calls.Run k)) digests s hart answer zero new id e right none live (inr x) = absurd
    (same_table s.table new.table id e (ap (λ y. y.table) x.2.state) none live)
made_call (Some calls.Stop) digests s hart answer zero new id e right none live (inl x) =
    let t = x.2.turned in
    absurd (changed s.table new.table x.0 id _ t.0 e (ap (λ y. y.table) x.3.state ∙ t.2) t.1 none live)
made_call (Some calls.Stop) digests s hart answer zero new id e right none live (inr x) = absurd
    (same_table s.table new.table id e (ap (λ y. y.table) x.2.state) none live)
made_call (Some (calls.Resume k)) digests s hart answer zero new id e right none live (inl x) =
    let t = x.3.turned in
    absurd (changed s.table new.table k id _ t.0 e (ap (λ y. y.table) x.4.state ∙ t.2) t.1 none live)
made_call (Some (calls.Resume k)) digests s hart answer zero new id e right none live (inr x) = absurd
    (same_table s.table new.table id e (ap (λ y. y.table) x.2.state) none live)
made_call (Some (calls.Exit value)) digests s hart answer zero new id e right none live (inl x) =
    let t = x.2.turned in
    absurd (changed s.table new.table x.0 id _ t.0 e (ap (λ y. y.table) x.3.state ∙ t.2) t.1 none live)
made_call (Some (calls.Exit value)) digests s hart answer zero new id e right none live (inr x) = absurd
    (same_table s.table new.table id e (ap (λ y. y.table) x.2.state) none live)
made_call (Some (calls.Measure k n)) digests s hart answer zero new id e right none live (inl x) = absurd
    (same_table s.table new.table id e (ap (λ y. y.table) x.2.state) none live)
made_call (Some (calls.Measure k n)) digests s hart answer zero new id e right none live (inr x) = absurd
    (same_table s.table new.table id e (ap (λ y. y.table) x.2.state) none live)

-- an interrupt makes none
pub made_irq : (world : World) (s : MonitorState) (hart : ℕ) (new : MonitorState) (id : ℕ) (e : Enclave) → Absent s.table id → Live new.table id e
    → Interrupts world s hart new → ⊥
made_irq Host s hart new id e none live x = same_table s.table new.table id e (ap (λ y. y.table) x) none live
made_irq (InEnclave k) s hart new id e none live x =
    let t = x.1.turned in
    changed s.table new.table k id _ t.0 e (ap (λ y. y.table) x.2 ∙ t.2) t.1 none live
