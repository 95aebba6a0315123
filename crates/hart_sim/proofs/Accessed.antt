-- An access by the list of a bank, and by the view that it means.
use Rattle.std.proofs.Common.{◌≡◌, ◌≢◌, ◌∙◌, inl, inr, ℕ, ◌%◌, List, Result, Ok, Err, refl, sym, subst}
use Rattle.pmp_encoding.specs.declared.perm.Perm.{Perm}
use Rattle.pmp_encoding.specs.declared.region.Entry.{Entry}
use Rattle.pmp_match.specs.declared.access.Access.{Access}
use Rattle.pmp_match.specs.declared.access.Kind.{Kind}
use Rattle.pmp_match.specs.declared.access.Kind.TheVariants.{Fetch, Load, Store}
use Rattle.pmp_match.specs.declared.access.Mode.TheVariants.{Machine}
use Rattle.pmp_match.specs.declared.cause.Cause.{Cause}
use Rattle.pmp_match.specs.Causes.{misaligned}
use Rattle.pmp_match.specs.Judgement.{Judges, off_its_size, outside, denied, allowed}
use Rattle.pmp_match.specs.Meaning.{Means}
use Rattle.pmp_match.proofs.Judged.{judgement_law_proof}
use Rattle.hart_sim.specs.declared.memory.Memory.{Memory}
use Rattle.hart_trace.specs.declared.reply.Reply.{Reply}
use Rattle.hart_trace.specs.declared.reply.Reply.TheVariants as replies
use Rattle.hart_sim.specs.Effects.{SameMemory, Stores, ReachesMemory}
use Rattle.hart_sim.specs.Changes.{storing}
use Rattle.hart_trace.specs.declared.event.Event.{Event}
use Rattle.hart_trace.specs.declared.event.Event.TheVariants as events
use Rattle.hart_sim.specs.States.{MachineState}
use Rattle.hart_sim.specs.Steps.{verdict, TakesEffect, Accesses, DoesBy}
use Rattle.hart_sim.proofs.Equal.{equal}
use Rattle.hart_sim.specs.Parts.{shown}
use Rattle.monitor_core.specs.States.{MonitorState}
use Rattle.hart_sim.proofs.Verdicts.{verdict_is}

-- an access has one judgement
pub judged_once : (es : List Entry) (a : Access) (r s : Result (Unit {0}) Cause) → Judges es a r → Judges es a s → r ≡ s
judged_once es a r s j k = sym ((judgement_law_proof es a r).0 j) ∙ (judgement_law_proof es a s).0 k

-- one that the list allows is aligned
pub ok_aligned : (es : List Entry) (a : Access) (r : Result (Unit {0}) Cause) → Judges es a r → r ≡ Ok tt → a.address % a.size ≡ 0
ok_aligned es a _ (off_its_size off) is = absurd (let h : ◌≡◌ {A = Result (Unit {0}) Cause} (Err (misaligned a.kind)) (Ok tt) = is in cc)
ok_aligned es a _ (outside on out) is = on
ok_aligned es a _ (denied on inside refused) is = on
ok_aligned es a _ (allowed on inside granted) is = on

no_fault : (kind : Kind) (old new : Memory) (a : Access) (value : ℕ) (reply : Reply) (cause : Cause) → ReachesMemory kind old a value reply new
    → reply ≡ replies.Fault cause → ⊥
no_fault Fetch old new a value reply cause x e = let h = sym x.0 ∙ e in cc
no_fault Load old new a value reply cause x e = let h = sym x.0 ∙ e in cc
no_fault Store old new a value reply cause (inl x) e = let h = sym x.0 ∙ e in cc
no_fault Store old new a value reply cause (inr x) e = let h = sym x.0 ∙ e in cc

-- one that the list allows has no fault, and no cause
pub no_cause : (es : List Entry) (old new : Memory) (a : Access) (value : ℕ) (reply : Reply) (cause : Cause) → Judges es a (Ok tt)
    → ReachesMemory a.kind old a value reply new → (reply ≡ replies.Fault cause → Judges es a (Err cause))
    × (Judges es a (Err cause) → reply ≡ replies.Fault cause)
no_cause es old new a value reply cause j x = (
  (λ e. absurd (no_fault a.kind old new a value reply cause x e)),
  (λ k. let h : ◌≡◌ {A = Result (Unit {0}) Cause} (Ok tt) (Err cause) = judged_once es a (Ok tt) (Err cause) j k in absurd (let z = h in cc)),
)

-- one that the list refuses has that fault
pub that_cause : (es : List Entry) (a : Access) (given cause : Cause) → Judges es a (Err given)
    → (replies.Fault given ≡ replies.Fault cause → Judges es a (Err cause)) × (Judges es a (Err cause) → replies.Fault given ≡ replies.Fault cause)
that_cause es a given cause j = (
  (λ e. let same : given ≡ cause = cc in subst (λ x. Judges es a (Err x)) same j),
  (λ k. let h : ◌≡◌ {A = Result (Unit {0}) Cause} (Err given) (Err cause) = judged_once es a (Err given) (Err cause) j k in cc),
)

-- memory as it was shows the same state
pub shows_same : (core : MonitorState) (old new : Memory) → SameMemory new old → shown core new ≡ shown core old
shows_same core old new m = equal (record {
  table = refl;
  worlds = λ h. refl;
  registers = λ who. refl;
  bytes = m.bytes;
  written = m.written;
  marked = λ h. refl;
})

pub shows_store : (core : MonitorState) (old new : Memory) (address size value : ℕ) → Stores old address size value new
    → shown core new ≡ storing (shown core old) address size value
shows_store core old new address size value m = equal (record {
  table = refl;
  worlds = λ h. refl;
  registers = λ who. refl;
  bytes = m.bytes;
  written = m.written;
  marked = λ h. refl;
})

reaches : (kind : Kind) (core : MonitorState) (old new : Memory) (a : Access) (value : ℕ) (reply : Reply) → ReachesMemory kind old a value reply new
    → TakesEffect kind (shown core old) a value reply (shown core new)
reaches Fetch core old new a value reply x = (x.0, shows_same core old new x.1)
reaches Load core old new a value reply x = (x.0, shows_same core old new x.1)
reaches Store core old new a value reply (inl x) = inl (x.0, shows_store core old new a.address a.size value x.1)
reaches Store core old new a value reply (inr x) = inr (x.0, x.1, shows_same core old new x.2)

-- one that the list allows takes effect, whatever the list means
pub effect_ok : (es : List Entry) (core : MonitorState) (old new : Memory) (a : Access) (value : ℕ) (reply : Reply) (said : Result (Unit {0}) Cause)
    → Judges es a (Ok tt) → ReachesMemory a.kind old a value reply new → Judges es a said → Accesses said (shown core old) a value reply (shown core new)
effect_ok es core old new a value reply said j x k =
    subst (λ v. Accesses v (shown core old) a value reply (shown core new)) (judged_once es a (Ok tt) said j k) (reaches a.kind core old new a value reply x)

-- and one that it refuses is that fault, and nothing changes
pub effect_err : (es : List Entry) (s : MachineState) (a : Access) (value : ℕ) (cause : Cause) (said : Result (Unit {0}) Cause) → Judges es a (Err cause)
    → Judges es a said → Accesses said s a value (replies.Fault cause) s
effect_err es s a value cause said j k =
    let there : Accesses (Err cause) s a value (replies.Fault cause) s = (refl, refl) in
    subst (λ v. Accesses v s a value (replies.Fault cause) s) (judged_once es a (Err cause) said j k) there

-- where another list is met only where this one is
pub does_by : (Meets Other : List Entry → Type 0) (event : Event) (s : MachineState) (hart : ℕ) (reply : Reply) (new : MachineState)
    → ((list : List Entry) → Other list → Meets list) → DoesBy Meets event s hart reply new → DoesBy Other event s hart reply new
does_by Meets Other (events.Access a value) s hart reply new so x = λ list said meets judged. x list said (so list meets) judged
does_by Meets Other (events.Reg n value) s hart reply new so x = x
does_by Meets Other (events.Ecall words) s hart reply new so x = x
does_by Meets Other events.Irq s hart reply new so x = x

-- an access that the list allows is one that the view allows
pub accesses_ok : (view : ℕ → Perm) (es : List Entry) (core : MonitorState) (old new : Memory) (a : Access) (value : ℕ) (reply : Reply) → Means es view
    → a.mode ≢ Machine → Judges es a (Ok tt) → ReachesMemory a.kind old a value reply new
    → Accesses (verdict view a) (shown core old) a value reply (shown core new)
accesses_ok view es core old new a value reply means mode j x =
    subst (λ v. Accesses v (shown core old) a value reply (shown core new)) (sym (verdict_is view es a (Ok tt) means mode j))
    (reaches a.kind core old new a value reply x)

-- and one that it refuses one that the view refuses
pub accesses_err : (view : ℕ → Perm) (es : List Entry) (core : MonitorState) (old : Memory) (a : Access) (value : ℕ) (cause : Cause) → Means es view
    → a.mode ≢ Machine → Judges es a (Err cause) → Accesses (verdict view a) (shown core old) a value (replies.Fault cause) (shown core old)
accesses_err view es core old a value cause means mode j =
    let s = shown core old in
    let there : Accesses (Err cause) s a value (replies.Fault cause) s = (refl, refl) in
    subst (λ v. Accesses v s a value (replies.Fault cause) s) (sym (verdict_is view es a (Err cause) means mode j)) there
