-- Over a call or an interrupt each world whose list is not new keeps its view.
use Rattle.std.proofs.Common.{◌≡◌, ◌≢◌, ◌∙◌, ◌==◌, ⊎_elim, inl, inr, ℕ, ℤ, zero, suc, pos, negsuc, ◌≤◌, false, List, Option, Some, None}
use Rattle.std.proofs.Common.{refl, ap, sym, subst}
use Rattle.std.proofs.lemmas.Bool.{both_ways, cases_eq, eq-eqb, true≢false}
use Rattle.pmp_encoding.specs.Views.{SameView}
use Rattle.pmp_encoding.specs.declared.pages.PageRange.{PageRange}
use Rattle.measurement.specs.Requests.{parts_of}
use Rattle.measurement.specs.declared.request.Create.{Create}
use Rattle.sbi_decode.specs.declared.calls.Call.{Call}
use Rattle.sbi_decode.specs.declared.calls.Call.TheVariants as calls
use Rattle.sbi_decode.specs.declared.world.World.{World}
use Rattle.sbi_decode.specs.declared.world.World.TheVariants.{Host, Enclave as InEnclave}
use Rattle.enclave_table.specs.Enclaves.{EnclaveTable, Live, enclave_at, with_enclave}
use Rattle.enclave_table.specs.Views.{current_view}
use Rattle.enclave_table.specs.declared.enclave.Enclave.{Enclave}
use Rattle.enclave_table.specs.declared.enclave.Stage.{Stage}
use Rattle.enclave_table.specs.declared.life.Entering.{Entering}
use Rattle.enclave_table.specs.declared.life.Entering.TheVariants.{Run as FirstRun, Resume}
use Rattle.enclave_table.proofs.Places.{live_above, live_inside, set_other, set_same}
use Rattle.monitor_core.specs.Answers.{world_number}
use Rattle.monitor_core.specs.Measured.{IsMade, asked_in}
use Rattle.monitor_core.specs.States.{MonitorState}
use Rattle.monitor_core.specs.Steps.{DoesCall, DoesEnter, Interrupts}
use Rattle.monitor_core.specs.declared.answer.Answer.{Answer}
use Rattle.monitor_core.proofs.Views.{view_other, view_replaced}
use Rattle.trap_server.specs.Answered.{made_lists, new_lists}
use Rattle.trap_server.specs.Firmware.{IsThere, is_new}
use Rattle.trap_server.specs.declared.answer.NewLists.TheVariants as lists

-- a world was there, and its view is the same
abbrev pub Keeps : EnclaveTable → EnclaveTable → World → Type 0
Keeps old new world = IsThere old world × SameView (current_view old world) (current_view new world)

-- the table stayed
stays : (old new : EnclaveTable) (world : World) → new ≡ old → IsThere new world → Keeps old new world
stays old new world same there = (
  subst (λ t. IsThere t world) same there,
  λ page small. ap (λ t. current_view t world page) (sym same),
)

-- it changed at one id, and this is another
other_id : (old new : EnclaveTable) (id k : ℕ) (slot : Option Enclave) → 1 ≤ id → k ≢ id → new ≡ with_enclave old id slot → IsThere new (InEnclave k)
    → Keeps old new (InEnclave k)
other_id old new id k slot above differ is there =
    let same : enclave_at new.enclaves k ≡ enclave_at old.enclaves k = ap (λ (t : EnclaveTable). enclave_at t.enclaves k) is
    ∙ set_other old.enclaves id k slot above differ in (
      (there.0, sym same ∙ there.1),
      subst (λ t. SameView (current_view old (InEnclave k)) (current_view t (InEnclave k))) (sym is)
          (view_other old id slot (InEnclave k) above (λ e. differ (ap world_number e)) refl),
    )

-- an enclave went into another state
replaced : (old new : EnclaveTable) (id : ℕ) (e : Enclave) (stage : Stage) (world : World) → Live old id e
    → new ≡ with_enclave old id (Some (record e { state = stage })) → IsThere new world → Keeps old new world
replaced old new id e stage Host live is there = (
  tt,
  subst (λ t. SameView (current_view old Host) (current_view t Host)) (sym is) (view_replaced old id e (record e { state = stage }) Host live refl),
)
replaced old new id e stage (InEnclave k) live is there = (
  ⊎_elim (λ same. (e, ap (enclave_at old.enclaves) same ∙ live))
      (λ differ. (
        there.0,
        sym (ap (λ (t : EnclaveTable). enclave_at t.enclaves k) is
            ∙ set_other old.enclaves id k (Some (record e { state = stage })) (live_above old.enclaves id e live) differ) ∙ there.1,
      )) (cases_eq k id),
  subst (λ t. SameView (current_view old (InEnclave k)) (current_view t (InEnclave k))) (sym is)
      (view_replaced old id e (record e { state = stage }) (InEnclave k) live refl),
)

-- an enclave was made under an id
made : (old new : EnclaveTable) (id value : ℕ) (e : Enclave) (world : World) → 1 ≤ id → value ≡ id → new ≡ with_enclave old id (Some e)
    → is_new lists.HostAndMade value world ≡ false → IsThere new world → Keeps old new world
made old new id value e Host above is added off there = absurd (true≢false off)
made old new id value e (InEnclave k) above is added off there =
    other_id old new id k (Some e) above (λ same. both_ways (value == k) off (eq-eqb value k (is ∙ sym same))) added there

-- one was taken away
gone : (old new : EnclaveTable) (id : ℕ) (e : Enclave) (value : ℕ) (world : World) → Live old id e → new ≡ with_enclave old id None
    → is_new lists.Host value world ≡ false → IsThere new world → Keeps old new world
gone old new id e value Host live removed off there = absurd (true≢false off)
gone old new id e value (InEnclave k) live removed off there =
    other_id old new id k None (live_above old.enclaves id e live)
    (λ same.
    let none : enclave_at new.enclaves k ≡ None = ap (enclave_at new.enclaves) same ∙ ap (λ (t : EnclaveTable). enclave_at t.enclaves id) removed
    ∙ set_same old.enclaves id None (live_above old.enclaves id e live) (live_inside old.enclaves id e live) in
    let z : None ≡ Some there.0 = sym none ∙ there.1 in absurd cc) removed there

enters : (entering : Entering) (s : MonitorState) (hart id : ℕ) (answer : Answer) (cleared : Option PageRange) (new : MonitorState) (world : World)
    → DoesEnter entering id s hart answer cleared new → IsThere new.table world → Keeps s.table new.table world
enters entering s hart id answer cleared new world (inr x) there = stays s.table new.table world (ap (λ (y : MonitorState). y.table) x.2.state) there
enters FirstRun s hart id answer cleared new world (inl x) there =
    replaced s.table new.table id x.3.turned.0 _ world x.3.turned.1 (ap (λ (y : MonitorState). y.table) x.4.state ∙ x.3.turned.2) there
enters Resume s hart id answer cleared new world (inl x) there =
    replaced s.table new.table id x.3.turned.0 _ world x.3.turned.1 (ap (λ (y : MonitorState). y.table) x.4.state ∙ x.3.turned.2) there

pub call_keeps :
    (call : Option Call) (digests : Create → List ℕ) (s : MonitorState) (hart : ℕ) (answer : Answer) (cleared : Option PageRange) (new : MonitorState)
    (world : World) → DoesCall call digests s hart answer cleared new → IsThere new.table world
    → is_new (new_lists (asked_in call) answer cleared) answer.value world ≡ false → Keeps s.table new.table world
call_keeps None digests s hart answer cleared new world x there off = stays s.table new.table world (ap (λ (y : MonitorState). y.table) x.state) there
call_keeps (Some (calls.Create base text_pages data_pages shared_base shared_count entry_offset)) digests s hart answer cleared new world (inl x) there off =
    let asked = asked_in (Some (calls.Create base text_pages data_pages shared_base shared_count entry_offset)) in
    let told = subst (λ (a : Answer). is_new (new_lists asked a None) a.value world ≡ false) x.3.told
    (subst (λ o. is_new (new_lists asked answer o) answer.value world ≡ false) x.3.zeroes off) in
    made s.table new.table x.0 x.0 _ world x.2.next.free.0 refl (ap (λ (y : MonitorState). y.table) x.3.state ∙ x.2.added) told there
call_keeps (Some (calls.Create base text_pages data_pages shared_base shared_count entry_offset)) digests s hart answer cleared new world (inr x) there off =
    stays s.table new.table world (ap (λ (y : MonitorState). y.table) x.2.state) there
call_keeps (Some (calls.Destroy id)) digests s hart answer cleared new world (inl x) there off =
    let g = x.2.passes.1.0 in
    let told = subst (λ o. is_new (new_lists None answer o) answer.value world ≡ false) x.3.zeroes off in
    gone s.table new.table id g.0 answer.value world g.1 (ap (λ (y : MonitorState). y.table) x.3.state ∙ x.2.removed) told there
call_keeps (Some (calls.Destroy id)) digests s hart answer cleared new world (inr x) there off =
    stays s.table new.table world (ap (λ (y : MonitorState). y.table) x.2.state) there
call_keeps (Some (calls.Run id)) digests s hart answer cleared new world x there off = enters FirstRun s hart id answer cleared new world x there
call_keeps (Some calls.Stop) digests s hart answer cleared new world (inl x) there off =
    replaced s.table new.table x.0 x.2.turned.0 _ world x.2.turned.1 (ap (λ (y : MonitorState). y.table) x.3.state ∙ x.2.turned.2) there
call_keeps (Some calls.Stop) digests s hart answer cleared new world (inr x) there off =
    stays s.table new.table world (ap (λ (y : MonitorState). y.table) x.2.state) there
call_keeps (Some (calls.Resume id)) digests s hart answer cleared new world x there off = enters Resume s hart id answer cleared new world x there
call_keeps (Some (calls.Exit value)) digests s hart answer cleared new world (inl x) there off =
    replaced s.table new.table x.0 x.2.turned.0 _ world x.2.turned.1 (ap (λ (y : MonitorState). y.table) x.3.state ∙ x.2.turned.2) there
call_keeps (Some (calls.Exit value)) digests s hart answer cleared new world (inr x) there off =
    stays s.table new.table world (ap (λ (y : MonitorState). y.table) x.2.state) there
call_keeps (Some (calls.Measure id k)) digests s hart answer cleared new world (inl x) there off =
    stays s.table new.table world (ap (λ (y : MonitorState). y.table) x.2.state) there
call_keeps (Some (calls.Measure id k)) digests s hart answer cleared new world (inr x) there off =
    stays s.table new.table world (ap (λ (y : MonitorState). y.table) x.2.state) there

pub irq_keeps : (runs : World) (s : MonitorState) (hart : ℕ) (new : MonitorState) (world : World) → Interrupts runs s hart new → IsThere new.table world
    → Keeps s.table new.table world
irq_keeps Host s hart new world x there = stays s.table new.table world (ap (λ (y : MonitorState). y.table) x) there
irq_keeps (InEnclave id) s hart new world x there =
    replaced s.table new.table id x.1.turned.0 _ world x.1.turned.1 (ap (λ (y : MonitorState). y.table) x.2 ∙ x.1.turned.2) there

-- where the list of an enclave is new, the call made it
done_status : (status : ℤ) → made_lists status ≡ lists.HostAndMade → status ≡ pos 0
done_status (pos zero) is = refl
done_status (pos (suc n)) is = let z : lists.Nothing ≡ lists.HostAndMade = is in absurd cc
done_status (negsuc n) is = let z : lists.Nothing ≡ lists.HostAndMade = is in absurd cc

pub made_by_lists : (asked : Option Create) (answer : Answer) (cleared : Option PageRange) → new_lists asked answer cleared ≡ lists.HostAndMade
    → (parts : Create) × IsMade asked answer parts
made_by_lists asked answer (Some range) is = let z : lists.Host ≡ lists.HostAndMade = is in absurd cc
made_by_lists (Some asked) answer None is = (parts_of asked, (refl, done_status answer.status is))
made_by_lists None answer None is = let z : lists.Nothing ≡ lists.HostAndMade = is in absurd cc
