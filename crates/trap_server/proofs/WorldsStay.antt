-- A call and an interrupt leave each other hart in its world.
use Rattle.measurement.specs.declared.request.Create.{Create}
use Rattle.std.proofs.Common.{◌≡◌, ◌≢◌, ◌∙◌, ◌==◌, inl, inr, ℕ, List, Option, Some, None, if◌then◌else◌, ap}
use Rattle.std.proofs.lemmas.Bool.{ne_eqb}
use Rattle.pmp_encoding.specs.declared.pages.PageRange.{PageRange}
use Rattle.sbi_decode.specs.declared.calls.Call.{Call}
use Rattle.sbi_decode.specs.declared.calls.Call.TheVariants as calls
use Rattle.sbi_decode.specs.declared.world.World.{World}
use Rattle.sbi_decode.specs.declared.world.World.TheVariants.{Host, Enclave as InEnclave}
use Rattle.monitor_core.specs.declared.answer.Answer.{Answer}
use Rattle.monitor_core.specs.States.{MonitorState}
use Rattle.monitor_core.specs.Steps.{DoesCall, Interrupts}

-- a world was put on the hart alone
elsewhere : (s n : MonitorState) (hart other : ℕ) (to : World) → other ≢ hart → n.worlds other ≡ (if other == hart then to else s.worlds other)
    → n.worlds other ≡ s.worlds other
elsewhere s n hart other to differs is = is ∙ ap (λ t. if t then to else s.worlds other) (ne_eqb other hart differs)

pub call_elsewhere :
    (call : Option Call) (digests : Create → List ℕ) (s : MonitorState) (hart : ℕ) (answer : Answer) (zero : Option PageRange) (n : MonitorState) (other : ℕ)
    → other ≢ hart → DoesCall call digests s hart answer zero n → n.worlds other ≡ s.worlds other
call_elsewhere None digests s hart answer zero n other differs x = ap (λ y. y.worlds other) x.state
call_elsewhere (Some (calls.Create base text_pages data_pages shared_base shared_count entry_offset)) digests s hart answer zero n other differs (inl x) = ap
    (λ y. y.worlds other) x.3.state
call_elsewhere (Some (calls.Create base text_pages data_pages shared_base shared_count entry_offset)) digests s hart answer zero n other differs (inr x) = ap
    (λ y. y.worlds other) x.2.state
call_elsewhere (Some (calls.Destroy id)) digests s hart answer zero n other differs (inl x) = ap (λ y. y.worlds other) x.3.state
call_elsewhere (Some (calls.Destroy id)) digests s hart answer zero n other differs (inr x) = ap (λ y. y.worlds other) x.2.state
call_elsewhere (Some (calls.Measure id k)) digests s hart answer zero n other differs (inl x) = ap (λ y. y.worlds other) x.2.state
call_elsewhere (Some (calls.Measure id k)) digests s hart answer zero n other differs (inr x) = ap (λ y. y.worlds other) x.2.state
call_elsewhere (Some (calls.Run id)) digests s hart answer zero n other differs (inl x) = elsewhere s n hart other (InEnclave id) differs
    (ap (λ y. y.worlds other) x.4.state)
call_elsewhere (Some (calls.Run id)) digests s hart answer zero n other differs (inr x) = ap (λ y. y.worlds other) x.2.state
call_elsewhere (Some calls.Stop) digests s hart answer zero n other differs (inl x) = elsewhere s n hart other Host differs (ap (λ y. y.worlds other) x.3.state)
call_elsewhere (Some calls.Stop) digests s hart answer zero n other differs (inr x) = ap (λ y. y.worlds other) x.2.state
call_elsewhere (Some (calls.Resume id)) digests s hart answer zero n other differs (inl x) = elsewhere s n hart other (InEnclave id) differs
    (ap (λ y. y.worlds other) x.4.state)
call_elsewhere (Some (calls.Resume id)) digests s hart answer zero n other differs (inr x) = ap (λ y. y.worlds other) x.2.state
call_elsewhere (Some (calls.Exit value)) digests s hart answer zero n other differs (inl x) = elsewhere s n hart other Host differs
    (ap (λ y. y.worlds other) x.3.state)
call_elsewhere (Some (calls.Exit value)) digests s hart answer zero n other differs (inr x) = ap (λ y. y.worlds other) x.2.state

pub interrupt_elsewhere : (world : World) (s : MonitorState) (hart : ℕ) (n : MonitorState) (other : ℕ) → other ≢ hart → Interrupts world s hart n
    → n.worlds other ≡ s.worlds other
interrupt_elsewhere Host s hart n other differs x = ap (λ y. y.worlds other) x
interrupt_elsewhere (InEnclave id) s hart n other differs x = elsewhere s n hart other Host differs (ap (λ y. y.worlds other) x.2)
