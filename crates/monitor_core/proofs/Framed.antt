-- What parts of a call keep, one after another.
use Rattle.std.proofs.Common.{◌≡◌, ◌∙◌, ℕ, Bool, List, Option, refl, ap, sym, subst}
use Rattle.enclave_table.specs.Enclaves.{with_enclave}
use Rattle.enclave_table.specs.Tables.{Kept}
use Rattle.enclave_table.specs.declared.enclave.Enclave.{Enclave}
use Rattle.sbi_decode.specs.declared.world.World.{World}
use Rattle.monitor_core.specs.declared.parts.MonitorParts.{MonitorParts}
use Rattle.monitor_core.specs.Frames.{KeepsFrame}
use Rattle.monitor_core.specs.Parts.{HoldsTogether}
use Rattle.monitor_core.proofs.Moved.{Turning, whole_turned}
use Rattle.monitor_core.proofs.Stayed.{lists_turned}

-- the same parts belong together
pub whole_same : (kept now : Kept) (worlds after : List World) (marks then : List Bool) → now ≡ kept → after ≡ worlds → then ≡ marks
    → HoldsTogether kept worlds marks → HoldsTogether now after then
whole_same kept now worlds after marks then k w m is = subst (λ x. HoldsTogether x after then) (sym k)
    (subst (λ x. HoldsTogether kept x then) (sym w) (subst (HoldsTogether kept worlds) (sym m) is))

-- an enclave was put into another state while a hart went to another world
pub frame_turned : (old new : MonitorParts) (now : Kept) (hart id : ℕ) (to : World) → HoldsTogether old.table old.worlds old.marked
    → Turning old.table now old.worlds new.worlds old.marked hart id to → new.table ≡ now → new.marked ≡ old.marked
    → now ≡ record old.table { table = now.table } → KeepsFrame old new
frame_turned old new now hart id to w t table marks only = record {
  whole = whole_same now new.table new.worlds new.worlds old.marked new.marked table refl marks
      (whole_turned old.table now old.worlds new.worlds old.marked hart id to t w);
  layout = ap (λ k. k.table.layout) table ∙ ap (λ x. x.layout) t.turned.2;
  lists = λ same. table ∙ lists_turned old.table now only (ap (λ k. k.table) (sym table) ∙ same);
}

-- one id changed, of an enclave that runs on no hart
pub frame_placed : (old new : MonitorParts) (now : Kept) (id : ℕ) (slot : Option Enclave) → HoldsTogether new.table new.worlds new.marked → new.table ≡ now
    → now.table ≡ with_enclave old.table.table id slot → (now.table ≡ old.table.table → ⊥) → KeepsFrame old new
frame_placed old new now id slot w table placed another = record {
  whole = w;
  layout = ap (λ k. k.table.layout) table ∙ ap (λ t. t.layout) placed;
  lists = λ same. absurd (another (ap (λ k. k.table) (sym table) ∙ same));
}
