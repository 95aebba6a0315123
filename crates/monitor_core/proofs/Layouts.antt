-- A call and an interrupt leave the platform as it is.
use Rattle.measurement.specs.declared.request.Create.{Create}
use Rattle.std.proofs.Common.{◌≡◌, ◌∙◌, inl, inr, ℕ, List, Option, Some, None, ap}
use Rattle.sbi_decode.specs.declared.world.World.{World}
use Rattle.sbi_decode.specs.declared.world.World.TheVariants.{Host, Enclave as InEnclave}
use Rattle.sbi_decode.specs.declared.calls.Call.{Call}
use Rattle.sbi_decode.specs.declared.calls.Call.TheVariants as calls
use Rattle.pmp_encoding.specs.declared.pages.PageRange.{PageRange}
use Rattle.monitor_core.specs.declared.answer.Answer.{Answer}
use Rattle.monitor_core.specs.States.{MonitorState}
use Rattle.monitor_core.specs.Steps.{DoesCall, Interrupts}

-- the platform of a state
abbrev Same : MonitorState → MonitorState → Type 0
Same s new = new.table.layout ≡ s.table.layout

pub call_keeps_layout : (call : Option Call) (digests : Create → List ℕ) (s : MonitorState) (hart : ℕ) (answer : Answer) (zero : Option PageRange)
    (new : MonitorState) → DoesCall call digests s hart answer zero new → Same s new
call_keeps_layout None digests s hart answer zero new x = ap (λ y. y.table.layout) x.state
call_keeps_layout (Some (calls.Create base text_pages data_pages shared_base shared_count entry_offset)) digests s hart answer zero new (inl x) = ap
    (λ y. y.table.layout) x.3.state ∙ ap (λ t. t.layout) x.2.added
call_keeps_layout (Some (calls.Create base text_pages data_pages shared_base shared_count entry_offset)) digests s hart answer zero new (inr x) = ap
    (λ y. y.table.layout) x.2.state
call_keeps_layout (Some (calls.Destroy id)) digests s hart answer zero new (inl x) = ap (λ y. y.table.layout) x.3.state ∙ ap (λ t. t.layout) x.2.removed
call_keeps_layout (Some (calls.Destroy id)) digests s hart answer zero new (inr x) = ap (λ y. y.table.layout) x.2.state
call_keeps_layout (Some (calls.Run id)) digests s hart answer zero new (inl x) = ap (λ y. y.table.layout) x.4.state ∙ ap (λ t. t.layout) x.3.turned.2
call_keeps_layout (Some (calls.Run id)) digests s hart answer zero new (inr x) = ap (λ y. y.table.layout) x.2.state
call_keeps_layout (Some calls.Stop) digests s hart answer zero new (inl x) = ap (λ y. y.table.layout) x.3.state ∙ ap (λ t. t.layout) x.2.turned.2
call_keeps_layout (Some calls.Stop) digests s hart answer zero new (inr x) = ap (λ y. y.table.layout) x.2.state
call_keeps_layout (Some (calls.Resume id)) digests s hart answer zero new (inl x) = ap (λ y. y.table.layout) x.4.state ∙ ap (λ t. t.layout) x.3.turned.2
call_keeps_layout (Some (calls.Resume id)) digests s hart answer zero new (inr x) = ap (λ y. y.table.layout) x.2.state
call_keeps_layout (Some (calls.Exit value)) digests s hart answer zero new (inl x) = ap (λ y. y.table.layout) x.3.state ∙ ap (λ t. t.layout) x.2.turned.2
call_keeps_layout (Some (calls.Exit value)) digests s hart answer zero new (inr x) = ap (λ y. y.table.layout) x.2.state
call_keeps_layout (Some (calls.Measure id k)) digests s hart answer zero new (inl x) = ap (λ y. y.table.layout) x.2.state
call_keeps_layout (Some (calls.Measure id k)) digests s hart answer zero new (inr x) = ap (λ y. y.table.layout) x.2.state

pub interrupt_keeps_layout : (world : World) (s : MonitorState) (hart : ℕ) (new : MonitorState) → Interrupts world s hart new → Same s new
interrupt_keeps_layout Host s hart new x = ap (λ y. y.table.layout) x
interrupt_keeps_layout (InEnclave id) s hart new x = ap (λ y. y.table.layout) x.2 ∙ ap (λ t. t.layout) x.1.turned.2
