-- After every step there are as many entries as the view of each world needs.
use Rattle.std.proofs.Common.{◌≡◌, ◌≢◌, ◌∙◌, inl, inr, ℕ, ◌-◌, ◌<◌, ◌≤◌, ◌==◌, length, List, [], ◌∷◌, Option, Some, None, refl, ap, sym, subst, arith}
use Rattle.std.proofs.lemmas.Bool.{both_ways, eq-eqb, eqb-true}
use Rattle.std.proofs.lemmas.Option.{same_Some}
use Rattle.pmp_encoding.specs.Limits.{limit_number}
use Rattle.pmp_encoding.specs.Views.{View}
use Rattle.pmp_encoding.specs.declared.limit.Limit.{Limit}
use Rattle.pmp_encoding.specs.declared.pages.PageRange.{PageRange}
use Rattle.pmp_encoding.specs.declared.region.Entry.{Entry}
use Rattle.measurement.specs.Requests.{parts_of}
use Rattle.measurement.specs.declared.request.Create.{Create}
use Rattle.sbi_decode.specs.declared.calls.Call.{Call}
use Rattle.sbi_decode.specs.declared.calls.Call.TheVariants as calls
use Rattle.sbi_decode.specs.declared.world.World.{World}
use Rattle.sbi_decode.specs.declared.world.World.TheVariants.{Host, Enclave as InEnclave}
use Rattle.enclave_table.specs.Create.{fresh}
use Rattle.enclave_table.specs.Enclaves.{EnclaveTable, Live, enclave_at, with_enclave}
use Rattle.enclave_table.specs.Fewest.{FitsIn, IsListOf}
use Rattle.enclave_table.specs.Lives.{Turns}
use Rattle.enclave_table.specs.Tables.{IsTable}
use Rattle.enclave_table.specs.Views.{current_view, enclave_view, host_view}
use Rattle.enclave_table.specs.declared.enclave.Enclave.{Enclave}
use Rattle.enclave_table.specs.declared.enclave.Stage.{Stage}
use Rattle.enclave_table.proofs.Places.{live_above, live_inside, set_other, set_same}
use Rattle.enclave_table.proofs.SameViews.{fits_same}
use Rattle.enclave_table.proofs.ShortNames.{view_in}
use Rattle.enclave_table.proofs.Replaced.{same_host_view, was_live}
use Rattle.monitor_core.specs.States.{MonitorState}
use Rattle.monitor_core.specs.Steps.{DoesCall, Interrupts}
use Rattle.monitor_core.specs.declared.answer.Answer.{Answer}
use Rattle.monitor_core.proofs.Cases.{both}
use Rattle.trap_server.specs.Answered.{AreLists}
use Rattle.trap_server.specs.declared.answer.NewLists.{NewLists}
use Rattle.trap_server.specs.declared.answer.NewLists.TheVariants as lists

pub record AllFit (table : EnclaveTable) : Type 0 where
  pub host : FitsIn table.layout.limit (host_view table)
  pub each : (id : ℕ) (e : Enclave) → Live table id e → FitsIn table.layout.limit (enclave_view e.parts)

-- the lists that are new, where an enclave that was made is live
list_fits : (limit : Limit) (view : View) → FitsIn limit view → (entries : List Entry) × IsListOf limit view entries
list_fits limit view fits = (
  fits.1.entries,
  record { fewest = fits.1.fewest; room = subst (λ n. n ≤ limit_number limit) (sym fits.1.count) fits.2 },
)

pub lists_fit :
    (which : NewLists) (table : EnclaveTable) (id : ℕ) → AllFit table → (which ≡ lists.HostAndMade → (e : Enclave) × Live table id e)
    → (are : List (List Entry)) × AreLists table id which are
lists_fit lists.Nothing table id fit made = ([], refl)
lists_fit lists.Host table id fit made =
    let host = list_fits table.layout.limit (current_view table Host) fit.host in
    (host.0 ∷ [], (host.0, host.1, refl))
lists_fit lists.HostAndMade table id fit made =
    let e = made refl in
    let host = list_fits table.layout.limit (current_view table Host) fit.host in
    let own = fits_same table.layout.limit (enclave_view e.0.parts) (current_view table (InEnclave id)) (λ page small. sym (ap (λ o. view_in o page) e.1))
    (fit.each id e.0 e.1) in
    let new = list_fits table.layout.limit (current_view table (InEnclave id)) own in
    (host.0 ∷ (new.0 ∷ []), (host.0, new.0, host.1, new.1, refl))

-- where one place is written
put_fits : (table : EnclaveTable) (id : ℕ) (slot : Option Enclave) → 1 ≤ id → id - 1 < length table.enclaves
    → FitsIn table.layout.limit (host_view (with_enclave table id slot))
    → ((e : Enclave) → slot ≡ Some e → FitsIn table.layout.limit (enclave_view e.parts)) → AllFit table → AllFit (with_enclave table id slot)
put_fits table id slot above inside host own fit = record {
  host = host;
  each = λ other e live. both (other == id)
      (λ yes.
      let same = eqb-true other id yes in
      own e (sym (set_same table.enclaves id slot above inside) ∙ ap (enclave_at (with_enclave table id slot).enclaves) (sym same) ∙ live))
      (λ no.
      let differ : other ≢ id = λ same. both_ways (other == id) no (eq-eqb other id same) in
      fit.each other e (sym (set_other table.enclaves id other slot above differ) ∙ live));
}

along : (table new : EnclaveTable) → new ≡ table → AllFit table → AllFit new
along table new is fit = subst AllFit (sym is) fit

turned_fits : (table new : EnclaveTable) (id : ℕ) (stage : Stage) → Turns table id stage new → AllFit table → AllFit new
turned_fits table new id stage t fit = along (with_enclave table id (Some (record t.0 { state = stage }))) new t.2 (record {
  host = fits_same table.layout.limit (host_view table) _ (same_host_view table id t.0 (record t.0 { state = stage }) t.1 refl) fit.host;
  each = λ other f after.
      let g = was_live table id t.0 (record t.0 { state = stage }) other f t.1 refl after in
      subst (λ p. FitsIn table.layout.limit (enclave_view p)) (sym g.2) (fit.each other g.0 g.1);
})

pub call_fits : (call : Option Call) (digests : Create → List ℕ) (s : MonitorState) (hart : ℕ) (answer : Answer) (zero : Option PageRange) (new : MonitorState)
    → IsTable s.table → DoesCall call digests s hart answer zero new → AllFit s.table → AllFit new.table
call_fits None digests s hart answer zero new right x fit = along s.table new.table (ap (λ y. y.table) x.state) fit
call_fits (Some (calls.Create base text_pages data_pages shared_base shared_count entry_offset)) digests s hart answer zero new right (inl x) fit =
    let asked : Create = record {
      base = base;
      text_pages = text_pages;
      data_pages = data_pages;
      shared_base = shared_base;
      shared_count = shared_count;
      entry_offset = entry_offset;
    } in
    let free = x.2.next.free in
    let high = free.1 in
    let inside : x.0 - 1 < length s.table.enclaves = omega (arith, free.0, high, right.places) in
    let made = fresh digests (parts_of asked) in
    along (with_enclave s.table x.0 (Some made)) new.table (ap (λ y. y.table) x.3.state ∙ x.2.added)
    (put_fits s.table x.0 (Some made) free.0 inside
    (subst (λ (t : EnclaveTable). FitsIn t.layout.limit (host_view t)) x.2.added x.2.host_fits)
    (λ e is. subst (λ (e : Enclave). FitsIn s.table.layout.limit (enclave_view e.parts)) (same_Some made e is)
    (subst (λ (t : EnclaveTable). FitsIn t.layout.limit (enclave_view (parts_of asked))) x.2.added x.2.enclave_fits)) fit)
call_fits (Some (calls.Create base text_pages data_pages shared_base shared_count entry_offset)) digests s hart answer zero new right (inr x) fit =
    along s.table new.table (ap (λ y. y.table) x.2.state) fit
call_fits (Some (calls.Destroy k)) digests s hart answer zero new right (inl x) fit =
    let g = x.2.passes.1.0 in
    along (with_enclave s.table k None) new.table (ap (λ y. y.table) x.3.state ∙ x.2.removed)
    (put_fits s.table k None (live_above s.table.enclaves k g.0 g.1) (live_inside s.table.enclaves k g.0 g.1)
    (subst (λ (t : EnclaveTable). FitsIn t.layout.limit (host_view t)) x.2.removed x.2.host_fits)
    (λ e is. let z : None ≡ Some e = is in absurd cc) fit)
call_fits (Some (calls.Destroy k)) digests s hart answer zero new right (inr x) fit = along s.table new.table (ap (λ y. y.table) x.2.state) fit
call_fits (Some (calls.Run k)) digests s hart answer zero new right (inl x) fit =
    along x.1 new.table (ap (λ y. y.table) x.4.state) (turned_fits s.table x.1 k _ x.3.turned fit)
call_fits (Some (calls.Run k)) digests s hart answer zero new right (inr x) fit = along s.table new.table (ap (λ y. y.table) x.2.state) fit
call_fits (Some calls.Stop) digests s hart answer zero new right (inl x) fit =
    along x.1 new.table (ap (λ y. y.table) x.3.state) (turned_fits s.table x.1 x.0 _ x.2.turned fit)
call_fits (Some calls.Stop) digests s hart answer zero new right (inr x) fit = along s.table new.table (ap (λ y. y.table) x.2.state) fit
call_fits (Some (calls.Resume k)) digests s hart answer zero new right (inl x) fit =
    along x.1 new.table (ap (λ y. y.table) x.4.state) (turned_fits s.table x.1 k _ x.3.turned fit)
call_fits (Some (calls.Resume k)) digests s hart answer zero new right (inr x) fit = along s.table new.table (ap (λ y. y.table) x.2.state) fit
call_fits (Some (calls.Exit value)) digests s hart answer zero new right (inl x) fit =
    along x.1 new.table (ap (λ y. y.table) x.3.state) (turned_fits s.table x.1 x.0 _ x.2.turned fit)
call_fits (Some (calls.Exit value)) digests s hart answer zero new right (inr x) fit = along s.table new.table (ap (λ y. y.table) x.2.state) fit
call_fits (Some (calls.Measure k n)) digests s hart answer zero new right (inl x) fit = along s.table new.table (ap (λ y. y.table) x.2.state) fit
call_fits (Some (calls.Measure k n)) digests s hart answer zero new right (inr x) fit = along s.table new.table (ap (λ y. y.table) x.2.state) fit

pub irq_fits : (world : World) (s : MonitorState) (hart : ℕ) (new : MonitorState) → Interrupts world s hart new → AllFit s.table → AllFit new.table
irq_fits Host s hart new x fit = along s.table new.table (ap (λ y. y.table) x) fit
irq_fits (InEnclave k) s hart new x fit = along x.0 new.table (ap (λ y. y.table) x.2) (turned_fits s.table x.0 k _ x.1.turned fit)
