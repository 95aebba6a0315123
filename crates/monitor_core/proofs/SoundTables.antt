-- A call and an interrupt leave the table sound.
use Rattle.std.proofs.Common.{◌≡◌, inl, inr, ℕ, List, Option, Some, None, refl, sym, subst, ap}
use Rattle.platforms.specs.Platform.{PlatformLayout, IsLayout}
use Rattle.enclave_table.specs.Enclaves.{EnclaveTable, with_enclave}
use Rattle.measurement.specs.Requests.{parts_of}
use Rattle.enclave_table.specs.Tables.{IsTable}
use Rattle.enclave_table.specs.Create.{Creates, fresh}
use Rattle.enclave_table.specs.Destroy.{Destroys}
use Rattle.enclave_table.specs.Lives.{Turns}
use Rattle.measurement.specs.declared.request.Create.{Create}
use Rattle.enclave_table.specs.declared.enclave.Stage.{Stage}
use Rattle.pmp_encoding.specs.declared.pages.PageRange.{PageRange}
use Rattle.enclave_table.proofs.Created.{sound_from, apart_from}
use Rattle.enclave_table.proofs.Placed.{free_place, added_table, removed_table}
use Rattle.enclave_table.proofs.Places.{live_above, live_inside}
use Rattle.enclave_table.proofs.Replaced.{replaced_table}
use Rattle.sbi_decode.specs.declared.world.World.{World}
use Rattle.sbi_decode.specs.declared.world.World.TheVariants.{Host, Enclave as InEnclave}
use Rattle.sbi_decode.specs.declared.calls.Call.{Call}
use Rattle.sbi_decode.specs.declared.calls.Call.TheVariants as calls
use Rattle.pmp_encoding.specs.declared.pages.PageRange.{PageRange}
use Rattle.monitor_core.specs.declared.answer.Answer.{Answer}
use Rattle.monitor_core.specs.States.{MonitorState, opening_monitor}
use Rattle.monitor_core.specs.Steps.{DoesCall, Interrupts}
use Rattle.monitor_core.proofs.Currents.{none_live}

-- the same table
same : (table new : EnclaveTable) → new ≡ table → IsTable table → IsTable new
same table new is t = subst IsTable (sym is) t

-- one more enclave, after all checks
created : (digests : Create → List ℕ) (old : EnclaveTable) (world : World) (asked : Create) (id : ℕ) (new : EnclaveTable)
    → Creates digests old world asked id new → IsTable old → IsTable new
created digests old world asked id new x t =
    same (with_enclave old id (Some (fresh digests (parts_of asked)))) new x.added
    (added_table old id (fresh digests (parts_of asked)) (free_place old id t x.next.free.0 x.next.free.1) t (sound_from old world (parts_of asked) x.passes)
    (apart_from old world (parts_of asked) x.passes))

-- one enclave fewer
destroyed : (old : EnclaveTable) (world : World) (id : ℕ) (range : PageRange) (new : EnclaveTable) → Destroys old world id range new → IsTable old → IsTable new
destroyed old world id range new x t =
    let g = x.passes.1.0 in
    same (with_enclave old id None) new x.removed (removed_table old id (live_above old.enclaves id g.0 g.1, live_inside old.enclaves id g.0 g.1) t)

-- one enclave in another state
turned : (old : EnclaveTable) (id : ℕ) (stage : Stage) (new : EnclaveTable) → Turns old id stage new → IsTable old → IsTable new
turned old id stage new x t = same (with_enclave old id (Some (record x.0 { state = stage }))) new x.2
    (replaced_table old id x.0 (record x.0 { state = stage }) x.1 refl t)

pub call_keeps_table : (call : Option Call) (digests : Create → List ℕ) (s : MonitorState) (hart : ℕ) (answer : Answer) (zero : Option PageRange)
    (new : MonitorState) → DoesCall call digests s hart answer zero new → IsTable s.table → IsTable new.table
call_keeps_table None digests s hart answer zero new x t = same s.table new.table (ap (λ y. y.table) x.state) t
call_keeps_table (Some (calls.Create base text_pages data_pages shared_base shared_count entry_offset)) digests s hart answer zero new
    (inl x) t = same x.1 new.table (ap (λ y. y.table) x.3.state) (created digests s.table (s.worlds hart) _ x.0 x.1 x.2 t)
call_keeps_table (Some (calls.Create base text_pages data_pages shared_base shared_count entry_offset)) digests s hart answer zero new
    (inr x) t = same s.table new.table (ap (λ y. y.table) x.2.state) t
call_keeps_table (Some (calls.Destroy id)) digests s hart answer zero new (inl x) t = same x.1 new.table (ap (λ y. y.table) x.3.state)
    (destroyed s.table (s.worlds hart) id x.0 x.1 x.2 t)
call_keeps_table (Some (calls.Destroy id)) digests s hart answer zero new (inr x) t = same s.table new.table (ap (λ y. y.table) x.2.state) t
call_keeps_table (Some (calls.Run id)) digests s hart answer zero new (inl x) t = same x.1 new.table (ap (λ y. y.table) x.4.state)
    (turned s.table id _ x.1 x.3.turned t)
call_keeps_table (Some (calls.Run id)) digests s hart answer zero new (inr x) t = same s.table new.table (ap (λ y. y.table) x.2.state) t
call_keeps_table (Some calls.Stop) digests s hart answer zero new (inl x) t = same x.1 new.table (ap (λ y. y.table) x.3.state)
    (turned s.table x.0 _ x.1 x.2.turned t)
call_keeps_table (Some calls.Stop) digests s hart answer zero new (inr x) t = same s.table new.table (ap (λ y. y.table) x.2.state) t
call_keeps_table (Some (calls.Resume id)) digests s hart answer zero new (inl x) t = same x.1 new.table (ap (λ y. y.table) x.4.state)
    (turned s.table id _ x.1 x.3.turned t)
call_keeps_table (Some (calls.Resume id)) digests s hart answer zero new (inr x) t = same s.table new.table (ap (λ y. y.table) x.2.state) t
call_keeps_table (Some (calls.Exit value)) digests s hart answer zero new (inl x) t = same x.1 new.table (ap (λ y. y.table) x.3.state)
    (turned s.table x.0 _ x.1 x.2.turned t)
call_keeps_table (Some (calls.Exit value)) digests s hart answer zero new (inr x) t = same s.table new.table (ap (λ y. y.table) x.2.state) t
call_keeps_table (Some (calls.Measure id k)) digests s hart answer zero new (inl x) t = same s.table new.table (ap (λ y. y.table) x.2.state) t
call_keeps_table (Some (calls.Measure id k)) digests s hart answer zero new (inr x) t = same s.table new.table (ap (λ y. y.table) x.2.state) t

pub interrupt_keeps_table : (world : World) (s : MonitorState) (hart : ℕ) (new : MonitorState) → Interrupts world s hart new → IsTable s.table
    → IsTable new.table
interrupt_keeps_table Host s hart new x t = same s.table new.table (ap (λ y. y.table) x) t
interrupt_keeps_table (InEnclave id) s hart new x t = same x.0 new.table (ap (λ y. y.table) x.2) (turned s.table id _ x.0 x.1.turned t)

-- the table at boot
pub opening_sound : (layout : PlatformLayout) → IsLayout layout → IsTable (opening_monitor layout).table
opening_sound layout rules = record {
  layout = rules;
  places = refl;
  sound = λ id e live. absurd (none_live layout id e live);
  alone = λ id other e f page live live_f part part_f. absurd (none_live layout id e live);
}
