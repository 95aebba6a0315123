-- What a call or an interrupt on one hart leaves of the others.
use Rattle.measurement.specs.declared.request.Create.{Create}
use Rattle.std.proofs.Common.{◌≡◌, ◌≢◌, ◌∙◌, inl, inr, ℕ, ◌<◌, ◌≤◌, Bool, true, false, ◌&&◌, ◌||◌, ◌==◌, nat_lt, if◌then◌else◌, List, Option, Some, None, refl}
use Rattle.std.proofs.Common.{ap, ap₂, sym, subst, arith}
use Rattle.std.proofs.lemmas.Bool.{ne_eqb, lt-ltb}
use Rattle.pmp_encoding.specs.declared.pages.PageRange.{PageRange}
use Rattle.permission_map.specs.Views.{SameView}
use Rattle.enclave_table.specs.Enclaves.{EnclaveTable, Live, enclave_at, with_enclave}
use Rattle.enclave_table.specs.Tables.{IsCurrent}
use Rattle.enclave_table.specs.Lives.{Leaves, state_after}
use Rattle.enclave_table.specs.declared.enclave.Enclave.{Enclave}
use Rattle.enclave_table.specs.declared.enclave.Stage.{Stage}
use Rattle.enclave_table.specs.declared.enclave.Stage.TheVariants.{Stopped}
use Rattle.enclave_table.specs.declared.life.Entering.{Entering}
use Rattle.enclave_table.specs.declared.life.Entering.TheVariants.{Run as FirstRun, Resume}
use Rattle.enclave_table.specs.declared.life.Leaving.{Leaving}
use Rattle.enclave_table.specs.declared.life.Leaving.TheVariants.{Stop, Exit}
use Rattle.enclave_table.proofs.Places.{live_above}
use Rattle.sbi_decode.specs.declared.world.World.{World}
use Rattle.sbi_decode.specs.declared.world.World.TheVariants.{Host, Enclave as InEnclave}
use Rattle.sbi_decode.specs.declared.calls.Call.{Call}
use Rattle.sbi_decode.specs.declared.calls.Call.TheVariants as calls
use Rattle.monitor_core.specs.declared.answer.Answer.{Answer}
use Rattle.monitor_core.specs.States.{MonitorState, view_of, view_on}
use Rattle.monitor_core.specs.Changes.{is_host}
pub use Rattle.monitor_core.specs.Frames.{KeepsOthers}
use Rattle.monitor_core.specs.Steps.{DoesCall, DoesEnter, Interrupts}
use Rattle.monitor_core.specs.Worlds.{ArePlaced}
use Rattle.monitor_core.proofs.Views.{view_other, view_replaced}

-- the view of a hart in another table, its world as it was
there : (s new : MonitorState) (i : ℕ) (table : EnclaveTable) → new.table ≡ table → new.worlds i ≡ s.worlds i
    → SameView (view_of s.table (s.worlds i)) (view_of table (s.worlds i)) → SameView (view_on s i) (view_on new i)
there s new i table is world v = subst (λ t. SameView (view_of s.table (s.worlds i)) (view_of t (new.worlds i))) (sym is)
    (subst (λ w. SameView (view_of s.table (s.worlds i)) (view_of table w)) (sym world) v)

-- table, worlds and marks stayed
pub others_stay : (s new that : MonitorState) (hart : ℕ) → new ≡ that → that.table ≡ s.table → that.worlds ≡ s.worlds → that.marked ≡ s.marked
    → KeepsOthers s new hart
others_stay s new that hart is table worlds marked = record {
  worlds = λ i other. ap (λ y. y.worlds i) is ∙ ap (λ f. f i) worlds;
  awake = λ i other off. sym (ap (λ y. y.marked i) is ∙ ap (λ f. f i) marked) ∙ off;
  views = λ i other low off. there s new i s.table (ap (λ y. y.table) is ∙ table) (ap (λ y. y.worlds i) is ∙ ap (λ f. f i) worlds) (λ page small. refl);
}

neither : (a b : Bool) → (a || b) ≡ false → (a ≡ false) × (b ≡ false)
neither true b e = absurd (let h : true ≡ false = e in cc)
neither false b e = (refl, e)

-- an enclave was made or taken away, which runs nowhere; the harts in the host's world are marked
owned : (s new : MonitorState) (hart id : ℕ) (slot : Option Enclave) (harts : ℕ) → 1 ≤ id → harts ≡ s.table.layout.harts
    → ((i : ℕ) → i < s.table.layout.harts → s.worlds i ≢ InEnclave id)
    → new.table ≡ with_enclave s.table id slot → ((i : ℕ) → new.worlds i ≡ s.worlds i)
    → ((i : ℕ) → new.marked i ≡ (if i == hart then s.marked i else (nat_lt i harts && is_host (s.worlds i) || s.marked i))) → KeepsOthers s new hart
owned s new hart id slot harts above many free table worlds marks = record {
  worlds = λ i other. worlds i;
  awake = λ i other off. (neither (nat_lt i harts && is_host (s.worlds i)) (s.marked i)
      (sym (ap (λ (t : Bool). if t then s.marked i else (nat_lt i harts && is_host (s.worlds i) || s.marked i)) (ne_eqb i hart other)) ∙ sym (marks i)
      ∙ off)).1;
  views = λ i other low off.
      let mark = λ (mine known : Bool). if mine then s.marked i else (known && is_host (s.worlds i) || s.marked i) in
      let parts = neither (is_host (s.worlds i)) (s.marked i) (sym (ap₂ mark (ne_eqb i hart other) (lt-ltb i harts (omega (arith, many, low)))) ∙ sym (marks i)
      ∙ off) in
      there s new i (with_enclave s.table id slot) table (worlds i) (view_other s.table id slot (s.worlds i) above (free i low) parts.0);
}

-- a hart went from one world to another, and an enclave into another state
moved : (s new : MonitorState) (hart id : ℕ) (e : Enclave) (stage : Stage) (to : World) → Live s.table id e
    → new.table ≡ with_enclave s.table id (Some (record e { state = stage })) → ((i : ℕ) → new.worlds i ≡ (if i == hart then to else s.worlds i))
    → ((i : ℕ) → new.marked i ≡ s.marked i) → KeepsOthers s new hart
moved s new hart id e stage to live table worlds marks = record {
  worlds = λ i other. worlds i ∙ ap (λ (t : Bool). if t then to else s.worlds i) (ne_eqb i hart other);
  awake = λ i other off. sym (marks i) ∙ off;
  views = λ i other low off.
      there s new i (with_enclave s.table id (Some (record e { state = stage }))) table
      (worlds i ∙ ap (λ (t : Bool). if t then to else s.worlds i) (ne_eqb i hart other))
      (view_replaced s.table id e (record e { state = stage }) (s.worlds i) live refl);
}

-- an id that is free runs on no hart
free_nowhere : (s : MonitorState) (id : ℕ) → ArePlaced s → enclave_at s.table.enclaves id ≡ None → (i : ℕ) → i < s.table.layout.harts
    → s.worlds i ≢ InEnclave id
free_nowhere s id w free i low is =
    let now : IsCurrent s.table (InEnclave id) = subst (IsCurrent s.table) is (w.current i low) in
    let z : None ≡ Some now.0 = sym free ∙ now.1 in absurd cc

enters : (entering : Entering) (s : MonitorState) (hart id : ℕ) (answer : Answer) (zero : Option PageRange) (new : MonitorState)
    → DoesEnter entering id s hart answer zero new → KeepsOthers s new hart
enters entering s hart id answer zero new (inr x) = others_stay s new _ hart x.2.state refl refl refl
enters FirstRun s hart id answer zero new (inl x) =
    moved s new hart id x.3.turned.0 _ (InEnclave id) x.3.turned.1
    (ap (λ y. y.table) x.4.state ∙ x.3.turned.2) (λ i. ap (λ y. y.worlds i) x.4.state) (λ i. ap (λ y. y.marked i) x.4.state)
enters Resume s hart id answer zero new (inl x) =
    moved s new hart id x.3.turned.0 _ (InEnclave id) x.3.turned.1
    (ap (λ y. y.table) x.4.state ∙ x.3.turned.2) (λ i. ap (λ y. y.worlds i) x.4.state) (λ i. ap (λ y. y.marked i) x.4.state)

left : (s new : MonitorState) (hart id : ℕ) (leaving : Leaving) (table : EnclaveTable)
    → Leaves s.table (s.worlds hart) (state_after leaving) id table
    → new.table ≡ table → ((i : ℕ) → new.worlds i ≡ (if i == hart then Host else s.worlds i)) → ((i : ℕ) → new.marked i ≡ s.marked i) → KeepsOthers s new hart
left s new hart id leaving table l is worlds marks =
    moved s new hart id l.turned.0 _ Host l.turned.1 (is ∙ l.turned.2) worlds marks

pub others_call : (call : Option Call) (digests : Create → List ℕ) (s : MonitorState) (hart : ℕ) (answer : Answer) (zero : Option PageRange)
    (new : MonitorState) → hart < s.table.layout.harts → ArePlaced s → DoesCall call digests s hart answer zero new → KeepsOthers s new hart
others_call None digests s hart answer zero new low w x = others_stay s new _ hart x.state refl refl refl
others_call (Some (calls.Create base text_pages data_pages shared_base shared_count entry_offset)) digests s hart answer zero new low w (inl x) =
    owned s new hart x.0 _ x.1.layout.harts x.2.next.free.0 (ap (λ t. t.layout.harts) x.2.added) (free_nowhere s x.0 w x.2.next.free.2)
    (ap (λ y. y.table) x.3.state ∙ x.2.added) (λ i. ap (λ y. y.worlds i) x.3.state) (λ i. ap (λ y. y.marked i) x.3.state)
others_call (Some (calls.Create base text_pages data_pages shared_base shared_count entry_offset)) digests s hart answer zero new low w
    (inr x) = others_stay s new _ hart x.2.state refl refl refl
others_call (Some (calls.Destroy id)) digests s hart answer zero new low w (inl x) =
    let g = x.2.passes.1.0 in
    owned s new hart id None x.1.layout.harts (live_above s.table.enclaves id g.0 g.1) (ap (λ t. t.layout.harts) x.2.removed)
    (λ i under is. let now : IsCurrent s.table (InEnclave id) = subst (IsCurrent s.table) is (w.current i under) in x.2.passes.1.1.0 now.0 now.1 now.2)
    (ap (λ y. y.table) x.3.state ∙ x.2.removed) (λ i. ap (λ y. y.worlds i) x.3.state) (λ i. ap (λ y. y.marked i) x.3.state)
others_call (Some (calls.Destroy id)) digests s hart answer zero new low w (inr x) = others_stay s new _ hart x.2.state refl refl refl
others_call (Some (calls.Run id)) digests s hart answer zero new low w x = enters FirstRun s hart id answer zero new x
others_call (Some calls.Stop) digests s hart answer zero new low w (inl x) =
    left s new hart x.0 Stop x.1 x.2 (ap (λ y. y.table) x.3.state) (λ i. ap (λ y. y.worlds i) x.3.state) (λ i. ap (λ y. y.marked i) x.3.state)
others_call (Some calls.Stop) digests s hart answer zero new low w (inr x) = others_stay s new _ hart x.2.state refl refl refl
others_call (Some (calls.Resume id)) digests s hart answer zero new low w x = enters Resume s hart id answer zero new x
others_call (Some (calls.Exit value)) digests s hart answer zero new low w (inl x) =
    left s new hart x.0 Exit x.1 x.2 (ap (λ y. y.table) x.3.state) (λ i. ap (λ y. y.worlds i) x.3.state) (λ i. ap (λ y. y.marked i) x.3.state)
others_call (Some (calls.Exit value)) digests s hart answer zero new low w (inr x) = others_stay s new _ hart x.2.state refl refl refl
others_call (Some (calls.Measure id k)) digests s hart answer zero new low w (inl x) = others_stay s new _ hart x.2.state refl refl refl
others_call (Some (calls.Measure id k)) digests s hart answer zero new low w (inr x) = others_stay s new _ hart x.2.state refl refl refl

pub others_irq : (world : World) (s : MonitorState) (hart : ℕ) (new : MonitorState) → s.worlds hart ≡ world → hart < s.table.layout.harts → ArePlaced s
    → Interrupts world s hart new → KeepsOthers s new hart
others_irq Host s hart new at low w x = others_stay s new s hart x refl refl refl
others_irq (InEnclave id) s hart new at low w x =
    left s new hart id Stop x.0 (subst (λ v. Leaves s.table v Stopped id x.0) (sym at) x.1) (ap (λ y. y.table) x.2) (λ i. ap (λ y. y.worlds i) x.2)
    (λ i. ap (λ y. y.marked i) x.2)
