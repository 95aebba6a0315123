-- A hart that is not marked is not marked after a call or an interrupt of its own.
use Rattle.measurement.specs.declared.request.Create.{Create}
use Rattle.std.proofs.Common.{◌≡◌, ◌∙◌, inl, inr, ℕ, List, false, ◌&&◌, ◌||◌, nat_lt, if◌then◌else◌, Option, Some, None, refl, ap}
use Rattle.std.proofs.lemmas.Bool.{eq-eqb}
use Rattle.sbi_decode.specs.declared.world.World.{World}
use Rattle.sbi_decode.specs.declared.world.World.TheVariants.{Host, Enclave as InEnclave}
use Rattle.sbi_decode.specs.declared.calls.Call.{Call}
use Rattle.sbi_decode.specs.declared.calls.Call.TheVariants as calls
use Rattle.pmp_encoding.specs.declared.pages.PageRange.{PageRange}
use Rattle.monitor_core.specs.declared.answer.Answer.{Answer}
use Rattle.monitor_core.specs.States.{MonitorState}
use Rattle.monitor_core.specs.Changes.{is_host, answering, marking_others}
use Rattle.monitor_core.specs.Steps.{DoesCall, Interrupts}

-- what a state after a hart's event says of its mark
abbrev Off : MonitorState → ℕ → Type 0
Off new hart = new.marked hart ≡ false

-- where every other hart is marked, its own mark stays
own_mark : (s : MonitorState) (hart : ℕ) → s.marked hart ≡ false → (marking_others s hart).marked hart ≡ false
own_mark s hart awake =
    let hosts = nat_lt hart s.table.layout.harts && is_host (s.worlds hart) in
    ap (λ t. if t then s.marked hart else (hosts || s.marked hart)) (eq-eqb hart hart refl) ∙ awake

pub call_leaves_awake : (call : Option Call) (digests : Create → List ℕ) (s : MonitorState) (hart : ℕ) (answer : Answer) (zero : Option PageRange)
    (new : MonitorState) → Off s hart → DoesCall call digests s hart answer zero new → Off new hart
call_leaves_awake None digests s hart answer zero new awake x = ap (λ y. y.marked hart) x.state ∙ awake
call_leaves_awake (Some (calls.Create base text_pages data_pages shared_base shared_count entry_offset)) digests s hart answer zero new awake (inl x) =
    ap (λ y. y.marked hart) x.3.state ∙ own_mark (answering (record s { table = x.1 }) hart 0 x.0) hart awake
call_leaves_awake (Some (calls.Create base text_pages data_pages shared_base shared_count entry_offset)) digests s hart answer zero new awake (inr x) = ap
    (λ y. y.marked hart) x.2.state ∙ awake
call_leaves_awake (Some (calls.Destroy id)) digests s hart answer zero new awake (inl x) =
    ap (λ y. y.marked hart) x.3.state ∙ own_mark (answering (record s { table = x.1 }) hart 0 0) hart awake
call_leaves_awake (Some (calls.Destroy id)) digests s hart answer zero new awake (inr x) = ap (λ y. y.marked hart) x.2.state ∙ awake
call_leaves_awake (Some (calls.Run id)) digests s hart answer zero new awake (inl x) = ap (λ y. y.marked hart) x.4.state ∙ awake
call_leaves_awake (Some (calls.Run id)) digests s hart answer zero new awake (inr x) = ap (λ y. y.marked hart) x.2.state ∙ awake
call_leaves_awake (Some calls.Stop) digests s hart answer zero new awake (inl x) = ap (λ y. y.marked hart) x.3.state ∙ awake
call_leaves_awake (Some calls.Stop) digests s hart answer zero new awake (inr x) = ap (λ y. y.marked hart) x.2.state ∙ awake
call_leaves_awake (Some (calls.Resume id)) digests s hart answer zero new awake (inl x) = ap (λ y. y.marked hart) x.4.state ∙ awake
call_leaves_awake (Some (calls.Resume id)) digests s hart answer zero new awake (inr x) = ap (λ y. y.marked hart) x.2.state ∙ awake
call_leaves_awake (Some (calls.Exit value)) digests s hart answer zero new awake (inl x) = ap (λ y. y.marked hart) x.3.state ∙ awake
call_leaves_awake (Some (calls.Exit value)) digests s hart answer zero new awake (inr x) = ap (λ y. y.marked hart) x.2.state ∙ awake
call_leaves_awake (Some (calls.Measure id k)) digests s hart answer zero new awake (inl x) = ap (λ y. y.marked hart) x.2.state ∙ awake
call_leaves_awake (Some (calls.Measure id k)) digests s hart answer zero new awake (inr x) = ap (λ y. y.marked hart) x.2.state ∙ awake

pub interrupt_leaves_awake : (world : World) (s : MonitorState) (hart : ℕ) (new : MonitorState) → Off s hart → Interrupts world s hart new → Off new hart
interrupt_leaves_awake Host s hart new awake x = ap (λ y. y.marked hart) x ∙ awake
interrupt_leaves_awake (InEnclave id) s hart new awake x = ap (λ y. y.marked hart) x.2 ∙ awake
