-- Which pages a call is to make zero.
use Rattle.measurement.specs.declared.request.Create.{Create}
use Rattle.std.proofs.Common.{◌≡◌, ◌≢◌, ◌⊎◌, ◌∙◌, inl, inr, ℕ, ◌+◌, ◌/◌, ◌≤◌, ◌==◌, List, Option, Some, None, ap, sym, subst}
use Rattle.std.proofs.lemmas.Bool.{eq-eqb, eqb-true, both_ways}
use Rattle.std.proofs.lemmas.Option.{same_Some}
use Rattle.pmp_encoding.specs.declared.pages.PageRange.{PageRange}
use Rattle.enclave_table.specs.Enclaves.{EnclaveTable, Live, enclave_at, with_enclave}
use Rattle.enclave_table.specs.declared.enclave.Enclave.{Enclave}
use Rattle.enclave_table.proofs.Places.{live_above, live_inside, set_same, set_other}
use Rattle.sbi_decode.specs.declared.world.World.{World}
use Rattle.sbi_decode.specs.declared.world.World.TheVariants.{Host, Enclave as InEnclave}
use Rattle.sbi_decode.specs.declared.calls.Call.{Call}
use Rattle.sbi_decode.specs.declared.calls.Call.TheVariants as calls
use Rattle.monitor_core.specs.declared.answer.Answer.{Answer}
use Rattle.monitor_core.specs.States.{MonitorState}
use Rattle.monitor_core.specs.Steps.{DoesCall, Interrupts}
use Rattle.monitor_core.proofs.Cases.{both}

-- the private pages of an enclave
abbrev pub private_of : Enclave → PageRange
private_of e = record { first = e.parts.base / 4096; count = e.parts.text_pages + e.parts.data_pages }

-- an enclave is no more, and the pages are its private ones
pub record Clears (s new : MonitorState) (range : PageRange) : Type 0 where
  pub id : ℕ
  pub enclave : Enclave
  pub live : Live s.table id enclave
  pub own : range ≡ private_of enclave
  pub table : new.table ≡ with_enclave s.table id None

-- either none, or the private digests of an enclave that is no more
pub cleared : (call : Option Call) (digests : Create → List ℕ) (s : MonitorState) (hart : ℕ) (answer : Answer) (zero : Option PageRange) (new : MonitorState)
    → DoesCall call digests s hart answer zero new → (zero ≡ None) ⊎ ((range : PageRange) × (zero ≡ Some range) × Clears s new range)
cleared None digests s hart answer zero new x = inl x.zeroes
cleared (Some (calls.Create base text_pages data_pages shared_base shared_count entry_offset)) digests s hart answer zero new (inl x) = inl x.3.zeroes
cleared (Some (calls.Create base text_pages data_pages shared_base shared_count entry_offset)) digests s hart answer zero new (inr x) = inl x.2.zeroes
cleared (Some (calls.Destroy id)) digests s hart answer zero new (inl x) =
    let g = x.2.passes.1.0 in
    inr (x.0, x.3.zeroes, record { id = id; enclave = g.0; live = g.1; own = x.2.pages g.0 g.1; table = ap (λ y. y.table) x.3.state ∙ x.2.removed })
cleared (Some (calls.Destroy id)) digests s hart answer zero new (inr x) = inl x.2.zeroes
cleared (Some (calls.Run id)) digests s hart answer zero new (inl x) = inl x.4.zeroes
cleared (Some (calls.Run id)) digests s hart answer zero new (inr x) = inl x.2.zeroes
cleared (Some calls.Stop) digests s hart answer zero new (inl x) = inl x.3.zeroes
cleared (Some calls.Stop) digests s hart answer zero new (inr x) = inl x.2.zeroes
cleared (Some (calls.Resume id)) digests s hart answer zero new (inl x) = inl x.4.zeroes
cleared (Some (calls.Resume id)) digests s hart answer zero new (inr x) = inl x.2.zeroes
cleared (Some (calls.Exit value)) digests s hart answer zero new (inl x) = inl x.3.zeroes
cleared (Some (calls.Exit value)) digests s hart answer zero new (inr x) = inl x.2.zeroes
cleared (Some (calls.Measure id k)) digests s hart answer zero new (inl x) = inl x.2.zeroes
cleared (Some (calls.Measure id k)) digests s hart answer zero new (inr x) = inl x.2.zeroes

-- an enclave that is live stays so where another is put at some id
pub still_there : (table : EnclaveTable) (k id : ℕ) (slot e : Enclave) → 1 ≤ k → Live table id e
    → enclave_at (with_enclave table k (Some slot)).enclaves id ≡ None → ⊥
still_there table k id slot e above live gone = both (id == k)
    (λ yes.
    let is : id ≡ k = eqb-true id k yes in
    let live' : Live table k e = subst (λ n. Live table n e) is live in
    let z : Some slot ≡ None = sym (set_same table.enclaves k (Some slot) above (live_inside table.enclaves k e live'))
    ∙ subst (λ n. enclave_at (with_enclave table k (Some slot)).enclaves n ≡ None) is gone in absurd cc)
    (λ no.
    let other : id ≢ k = λ is. both_ways (id == k) no (eq-eqb id k is) in
    let z : Some e ≡ None = sym live ∙ sym (set_other table.enclaves k id (Some slot) above other) ∙ gone in absurd cc)

-- and where the table stays
pub not_lost : (table new : EnclaveTable) (id : ℕ) (e : Enclave) → new ≡ table → Live table id e → enclave_at new.enclaves id ≡ None → ⊥
not_lost table new id e same live gone = let z : Some e ≡ None = sym live ∙ ap (λ t. enclave_at t.enclaves id) (sym same) ∙ gone in cc

abbrev Gone : MonitorState → ℕ → Type 0
Gone new id = enclave_at new.table.enclaves id ≡ None

-- the private digests of an enclave that is no more
pub lost_call : (call : Option Call) (digests : Create → List ℕ) (s : MonitorState) (hart : ℕ) (answer : Answer) (zero : Option PageRange) (new : MonitorState)
    (id : ℕ) (e : Enclave) → Live s.table id e → Gone new id → DoesCall call digests s hart answer zero new → zero ≡ Some (private_of e)
lost_call None digests s hart answer zero new id e live gone x = absurd (not_lost s.table new.table id e (ap (λ y. y.table) x.state) live gone)
lost_call (Some (calls.Create base text_pages data_pages shared_base shared_count entry_offset)) digests s hart answer zero new id e live gone (inl x) =
    absurd (still_there s.table x.0 id _ e x.2.next.free.0 live (ap (λ t. enclave_at t.enclaves id) (sym (ap (λ y. y.table) x.3.state ∙ x.2.added)) ∙ gone))
lost_call (Some (calls.Create base text_pages data_pages shared_base shared_count entry_offset)) digests s hart answer zero new id e live gone (inr x) = absurd
    (not_lost s.table new.table id e (ap (λ y. y.table) x.2.state) live gone)
lost_call (Some (calls.Destroy k)) digests s hart answer zero new id e live gone (inl x) =
    let g = x.2.passes.1.0 in
    both (id == k)
    (λ yes.
    let is : id ≡ k = eqb-true id k yes in
    let same : g.0 ≡ e = same_Some g.0 e (sym g.1 ∙ subst (λ n. enclave_at s.table.enclaves n ≡ Some e) is live) in
    x.3.zeroes ∙ ap Some (x.2.pages g.0 g.1 ∙ ap private_of same))
    (λ no.
    let other : id ≢ k = λ is. both_ways (id == k) no (eq-eqb id k is) in
    let z : Some e ≡ None = sym live ∙ sym (set_other s.table.enclaves k id None (live_above s.table.enclaves k g.0 g.1) other)
    ∙ ap (λ t. enclave_at t.enclaves id) (sym (ap (λ y. y.table) x.3.state ∙ x.2.removed)) ∙ gone in absurd cc)
lost_call (Some (calls.Destroy k)) digests s hart answer zero new id e live gone (inr x) = absurd
    (not_lost s.table new.table id e (ap (λ y. y.table) x.2.state) live gone)
lost_call (Some (calls.Run k)) digests s hart answer zero new id e live gone (inl x) =
    absurd (still_there s.table k id _ e (live_above s.table.enclaves k x.3.turned.0 x.3.turned.1) live
    (ap (λ t. enclave_at t.enclaves id) (sym (ap (λ y. y.table) x.4.state ∙ x.3.turned.2)) ∙ gone))
lost_call (Some (calls.Run k)) digests s hart answer zero new id e live gone (inr x) = absurd
    (not_lost s.table new.table id e (ap (λ y. y.table) x.2.state) live gone)
lost_call (Some calls.Stop) digests s hart answer zero new id e live gone (inl x) =
    absurd (still_there s.table x.0 id _ e (live_above s.table.enclaves x.0 x.2.turned.0 x.2.turned.1) live
    (ap (λ t. enclave_at t.enclaves id) (sym (ap (λ y. y.table) x.3.state ∙ x.2.turned.2)) ∙ gone))
lost_call (Some calls.Stop) digests s hart answer zero new id e live gone (inr x) = absurd
    (not_lost s.table new.table id e (ap (λ y. y.table) x.2.state) live gone)
lost_call (Some (calls.Resume k)) digests s hart answer zero new id e live gone (inl x) =
    absurd (still_there s.table k id _ e (live_above s.table.enclaves k x.3.turned.0 x.3.turned.1) live
    (ap (λ t. enclave_at t.enclaves id) (sym (ap (λ y. y.table) x.4.state ∙ x.3.turned.2)) ∙ gone))
lost_call (Some (calls.Resume k)) digests s hart answer zero new id e live gone (inr x) = absurd
    (not_lost s.table new.table id e (ap (λ y. y.table) x.2.state) live gone)
lost_call (Some (calls.Exit value)) digests s hart answer zero new id e live gone (inl x) =
    absurd (still_there s.table x.0 id _ e (live_above s.table.enclaves x.0 x.2.turned.0 x.2.turned.1) live
    (ap (λ t. enclave_at t.enclaves id) (sym (ap (λ y. y.table) x.3.state ∙ x.2.turned.2)) ∙ gone))
lost_call (Some (calls.Exit value)) digests s hart answer zero new id e live gone (inr x) = absurd
    (not_lost s.table new.table id e (ap (λ y. y.table) x.2.state) live gone)
lost_call (Some (calls.Measure k n)) digests s hart answer zero new id e live gone (inl x) = absurd
    (not_lost s.table new.table id e (ap (λ y. y.table) x.2.state) live gone)
lost_call (Some (calls.Measure k n)) digests s hart answer zero new id e live gone (inr x) = absurd
    (not_lost s.table new.table id e (ap (λ y. y.table) x.2.state) live gone)

-- an interrupt ends none
pub lost_irq : (world : World) (s : MonitorState) (hart : ℕ) (new : MonitorState) (id : ℕ) (e : Enclave) → Live s.table id e → Gone new id
    → Interrupts world s hart new → ⊥
lost_irq Host s hart new id e live gone x = not_lost s.table new.table id e (ap (λ y. y.table) x) live gone
lost_irq (InEnclave k) s hart new id e live gone x =
    still_there s.table k id _ e (live_above s.table.enclaves k x.1.turned.0 x.1.turned.1) live
    (ap (λ t. enclave_at t.enclaves id) (sym (ap (λ y. y.table) x.2 ∙ x.1.turned.2)) ∙ gone)
