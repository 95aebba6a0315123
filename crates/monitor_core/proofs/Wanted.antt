-- When a call is refused for want of entries, and when out of memory.
use Rattle.std.proofs.Common.{◌≡◌, ◌⊎◌, ◌∙◌, inl, inr, ℕ, List, [], ◌∷◌, Option, None, Some, ℤ, pos, negsuc, ◌-◌, ap, sym, subst, arith, cond}
use Rattle.pmp_encoding.specs.declared.limit.Limit.{Limit}
use Rattle.pmp_match.specs.Meaning.{View}
use Rattle.pmp_match.proofs.Meant.{needs_one}
use Rattle.pmp_encoding.specs.declared.pages.PageRange.{PageRange}
use Rattle.enclave_table.specs.Enclaves.{EnclaveTable, with_enclave}
use Rattle.measurement.specs.Requests.{parts_of, is_private}
use Rattle.enclave_table.specs.Views.{host_view, enclave_view}
use Rattle.platforms.specs.CheckLists.{AllPass, FailsFirst}
use Rattle.enclave_table.specs.Refusals.{refusal_number, RefusesBy}
use Rattle.enclave_table.specs.Checks.{create_checks, host_checks, MayDestroy, leave_checks, word_checks}
use Rattle.enclave_table.specs.Fewest.{FitsIn, NeedsMore}
use Rattle.enclave_table.specs.Create.{OutgrowsByCreate, fresh}
use Rattle.enclave_table.specs.Enclaves.{IsNextId}
use Rattle.measurement.specs.declared.request.Create.{Create}
use Rattle.enclave_table.specs.declared.refusal.Refusal.{Refusal}
use Rattle.enclave_table.specs.declared.refusal.Refusal.TheVariants.{NotHost, NotEnclave, BadCount, BadAddress, BadEntry, NotRam, Overlap, TableFull, NoEntries}
use Rattle.enclave_table.specs.declared.refusal.Refusal.TheVariants.{NoMemory, BadId, BadState, BadWord}
use Rattle.enclave_table.specs.Tables.{IsTable}
use Rattle.enclave_table.specs.declared.enclave.Stage.TheVariants.{Fresh, Stopped}
use Rattle.enclave_table.proofs.Placed.{free_place, host_added}
use Rattle.enclave_table.proofs.SameViews.{more_same}
use Rattle.permission_map.specs.Views.{SameView}
use Rattle.sbi_decode.specs.declared.world.World.{World}
use Rattle.sbi_decode.specs.declared.calls.Call.{Call}
use Rattle.sbi_decode.specs.declared.calls.Call.TheVariants as calls
use Rattle.monitor_core.specs.declared.answer.Answer.{Answer}
use Rattle.monitor_core.specs.Answers.{below_zero}
use Rattle.monitor_core.specs.States.{MonitorState}
use Rattle.monitor_core.specs.Steps.{Done, Refuses, DoesCall}
use Rattle.monitor_core.specs.Wants.{wants_of, IsRefusedByNeed}
use Rattle.pmp_encoding.specs.declared.perm.Perm.{Perm}
use Rattle.pmp_encoding.specs.declared.perm.Perm.TheVariants.{NoAccess}

-- a call was answered with this refusal
abbrev pub IsAnsweredBy : Answer → Refusal → Type 0
IsAnsweredBy answer refusal = answer.status ≡ below_zero (refusal_number refusal)

-- the host's view where the private pages of an enclave are closed to it
abbrev closed_view : EnclaveTable → Create → ℕ → Perm
closed_view table parts page = cond (is_private parts page) NoAccess (host_view table page)

-- the call that asks for it
abbrev creates_of : Create → Option Call
creates_of asked = Some (calls.Create asked.base asked.text_pages asked.data_pages asked.shared_base asked.shared_count asked.entry_offset)

-- where all checks pass, none fails
none_fails : (checks : List (Refusal × Type 0)) (refusal : Refusal) → AllPass checks → FailsFirst checks refusal → ⊥
none_fails [] refusal pass fails = fails
none_fails (check ∷ checks) refusal pass (inl f) = f.1 pass.0
none_fails (check ∷ checks) refusal pass (inr f) = none_fails checks refusal pass.1 f.1

-- a view that fits does not need more
fits_not_more : (limit : Limit) (view : View) → FitsIn limit view → NeedsMore limit view → ⊥
fits_not_more limit view fits more = let same = needs_one view fits.0 more.0 fits.1 more.1 in omega (arith, same, fits.2, more.2)

abbrev under_zero : ℤ → ℕ
under_zero (pos n) = 0
under_zero (negsuc n) = n

-- what a call that is refused, and one that is done, is answered with
refused_says : (number : ℕ) (s : MonitorState) (hart : ℕ) (answer : Answer) (zero : Option PageRange) (new : MonitorState)
    → Refuses number s hart answer zero new → answer.status ≡ below_zero number
refused_says number s hart answer zero new x = ap (λ a. a.status) x.told

done_says : (that : MonitorState) (value : ℕ) (pages : Option PageRange) (answer : Answer) (zero : Option PageRange) (new : MonitorState)
    → Done that value pages answer zero new → answer.status ≡ pos 0
done_says that value pages answer zero new x = ap (λ a. a.status) x.told

-- a call that was done was not refused
not_refused : (refusal : Refusal) (answer : Answer) → answer.status ≡ pos 0 → IsAnsweredBy answer refusal → ⊥
not_refused refusal answer x y = let z : pos 0 ≡ below_zero (refusal_number refusal) = sym x ∙ y in cc

-- out of memory is another answer than want of entries
not_both : (answer : Answer) → IsAnsweredBy answer NoMemory → IsAnsweredBy answer NoEntries → ⊥
not_both answer x y = let z : 108 ≡ 107 = ap under_zero (sym x ∙ y) in absurd (omega (arith, z))

-- one id is the next
one_next : (table : EnclaveTable) (id other : ℕ) → IsNextId table id → IsNextId table other → id ≡ other
one_next table id other n m = omega (arith, n.smallest other m.free, m.smallest id n.free)

-- refused for want of entries only where a view would need more; and where one would, for that or out of memory
abbrev ExactlyWhere : Type 0 → Answer → Type 0
ExactlyWhere More answer = (IsAnsweredBy answer NoEntries → More) × (More → IsAnsweredBy answer NoEntries ⊎ IsAnsweredBy answer NoMemory)

create_refused : (asked : Create) (digests : Create → List ℕ) (s : MonitorState) (hart : ℕ) (answer : Answer) (refusal : Refusal)
    → AllPass (create_checks s.table (s.worlds hart) (parts_of asked))
    → RefusesBy (create_checks s.table (s.worlds hart) (parts_of asked)) (OutgrowsByCreate digests s.table asked) refusal → IsAnsweredBy answer refusal
    → ExactlyWhere (OutgrowsByCreate digests s.table asked) answer
create_refused asked digests s hart answer NoEntries pass why x = ((λ is. why.1), (λ out. inl x))
create_refused asked digests s hart answer NoMemory pass why x = ((λ is. absurd (not_both answer x is)), (λ out. inr x))
create_refused asked digests s hart answer NotHost pass why x = absurd (none_fails (create_checks s.table (s.worlds hart) (parts_of asked)) NotHost pass why)
create_refused asked digests s hart answer NotEnclave pass why x = absurd
    (none_fails (create_checks s.table (s.worlds hart) (parts_of asked)) NotEnclave pass why)
create_refused asked digests s hart answer BadCount pass why x = absurd (none_fails (create_checks s.table (s.worlds hart) (parts_of asked)) BadCount pass why)
create_refused asked digests s hart answer BadAddress pass why x = absurd
    (none_fails (create_checks s.table (s.worlds hart) (parts_of asked)) BadAddress pass why)
create_refused asked digests s hart answer BadEntry pass why x = absurd (none_fails (create_checks s.table (s.worlds hart) (parts_of asked)) BadEntry pass why)
create_refused asked digests s hart answer NotRam pass why x = absurd (none_fails (create_checks s.table (s.worlds hart) (parts_of asked)) NotRam pass why)
create_refused asked digests s hart answer Overlap pass why x = absurd (none_fails (create_checks s.table (s.worlds hart) (parts_of asked)) Overlap pass why)
create_refused asked digests s hart answer TableFull pass why x = absurd (none_fails
    (create_checks s.table (s.worlds hart) (parts_of asked)) TableFull pass why)
create_refused asked digests s hart answer BadId pass why x = absurd (none_fails (create_checks s.table (s.worlds hart) (parts_of asked)) BadId pass why)
create_refused asked digests s hart answer BadState pass why x = absurd (none_fails (create_checks s.table (s.worlds hart) (parts_of asked)) BadState pass why)
create_refused asked digests s hart answer BadWord pass why x = absurd (none_fails (create_checks s.table (s.worlds hart) (parts_of asked)) BadWord pass why)

pub creates_by_need : (asked : Create) (digests : Create → List ℕ) (s : MonitorState) (hart : ℕ) (answer : Answer) (zero : Option PageRange)
    (new : MonitorState) → AllPass (create_checks s.table (s.worlds hart) (parts_of asked)) → DoesCall (creates_of asked) digests s hart answer zero new
    → ExactlyWhere (OutgrowsByCreate digests s.table asked) answer
creates_by_need asked digests s hart answer zero new pass (inr x) = create_refused asked digests s hart answer x.0 pass x.1
    (refused_says _ s hart answer zero new x.2)
creates_by_need asked digests s hart answer zero new pass (inl x) = (
  (λ is. absurd (not_refused NoEntries answer (done_says _ _ _ answer zero new x.3) is)),
  (λ out. absurd (elim out [
    | inl host ↦
        let made = with_enclave s.table x.0 (Some (fresh digests (parts_of asked))) in
        let same : x.0 ≡ host.0 = one_next s.table x.0 host.0 x.2.next host.1 in
        fits_not_more s.table.layout.limit (host_view made)
        (subst (λ t. FitsIn t.layout.limit (host_view t)) x.2.added x.2.host_fits)
        (subst (λ n. NeedsMore s.table.layout.limit (host_view (with_enclave s.table n (Some (fresh digests (parts_of asked)))))) (sym same) host.2)
    | inr own ↦ fits_not_more s.table.layout.limit (enclave_view (parts_of asked))
        (subst (λ t. FitsIn t.layout.limit (enclave_view (parts_of asked))) x.2.added x.2.enclave_fits) own
  ])),
)

destroy_refused : (id : ℕ) (s : MonitorState) (hart : ℕ) (answer : Answer) (refusal : Refusal) → AllPass (host_checks MayDestroy s.table (s.worlds hart) id)
    → RefusesBy (host_checks MayDestroy s.table (s.worlds hart) id) (NeedsMore s.table.layout.limit (host_view (with_enclave s.table id None))) refusal
    → IsAnsweredBy answer refusal → ExactlyWhere (NeedsMore s.table.layout.limit (host_view (with_enclave s.table id None))) answer
destroy_refused id s hart answer NoEntries pass why x = ((λ is. why.1), (λ out. inl x))
destroy_refused id s hart answer NoMemory pass why x = ((λ is. absurd (not_both answer x is)), (λ out. inr x))
destroy_refused id s hart answer NotHost pass why x = absurd (none_fails (host_checks MayDestroy s.table (s.worlds hart) id) NotHost pass why)
destroy_refused id s hart answer NotEnclave pass why x = absurd (none_fails (host_checks MayDestroy s.table (s.worlds hart) id) NotEnclave pass why)
destroy_refused id s hart answer BadCount pass why x = absurd (none_fails (host_checks MayDestroy s.table (s.worlds hart) id) BadCount pass why)
destroy_refused id s hart answer BadAddress pass why x = absurd (none_fails (host_checks MayDestroy s.table (s.worlds hart) id) BadAddress pass why)
destroy_refused id s hart answer BadEntry pass why x = absurd (none_fails (host_checks MayDestroy s.table (s.worlds hart) id) BadEntry pass why)
destroy_refused id s hart answer NotRam pass why x = absurd (none_fails (host_checks MayDestroy s.table (s.worlds hart) id) NotRam pass why)
destroy_refused id s hart answer Overlap pass why x = absurd (none_fails (host_checks MayDestroy s.table (s.worlds hart) id) Overlap pass why)
destroy_refused id s hart answer TableFull pass why x = absurd (none_fails (host_checks MayDestroy s.table (s.worlds hart) id) TableFull pass why)
destroy_refused id s hart answer BadId pass why x = absurd (none_fails (host_checks MayDestroy s.table (s.worlds hart) id) BadId pass why)
destroy_refused id s hart answer BadState pass why x = absurd (none_fails (host_checks MayDestroy s.table (s.worlds hart) id) BadState pass why)
destroy_refused id s hart answer BadWord pass why x = absurd (none_fails (host_checks MayDestroy s.table (s.worlds hart) id) BadWord pass why)

pub destroys_by_need : (id : ℕ) (digests : Create → List ℕ) (s : MonitorState) (hart : ℕ) (answer : Answer) (zero : Option PageRange) (new : MonitorState)
    → AllPass (host_checks MayDestroy s.table (s.worlds hart) id) → DoesCall (Some (calls.Destroy id)) digests s hart answer zero new
    → ExactlyWhere (NeedsMore s.table.layout.limit (host_view (with_enclave s.table id None))) answer
destroys_by_need id digests s hart answer zero new pass (inr x) = destroy_refused id s hart answer x.0 pass x.1 (refused_says _ s hart answer zero new x.2)
destroys_by_need id digests s hart answer zero new pass (inl x) = (
  (λ is. absurd (not_refused NoEntries answer (done_says _ _ _ answer zero new x.3) is)),
  (λ out. absurd (fits_not_more s.table.layout.limit (host_view (with_enclave s.table id None))
      (subst (λ t. FitsIn t.layout.limit (host_view t)) x.2.removed x.2.host_fits) out)),
)

-- an answer to a call that is neither want of entries nor out of memory
record Neither (answer : Answer) : Type 0 where
  entries : IsAnsweredBy answer NoEntries → ⊥
  memory : IsAnsweredBy answer NoMemory → ⊥

abbrev ByNeed : Option Call → EnclaveTable → World → Answer → Type 0
ByNeed call table world answer = IsRefusedByNeed call table world (IsAnsweredBy answer)

-- a call that is never refused so
never : (call : Option Call) (table : EnclaveTable) (world : World) (answer : Answer) → ((wants_of call table world).0 → ⊥) → Neither answer
    → ByNeed call table world answer
never call table world answer none n = record {
  entries = λ is. absurd (n.entries is);
  outgrown = λ pass out. absurd (none pass);
  memory = λ is. absurd
      (n.memory is);
}

-- an answer with another status
other_status : (answer : Answer) (status : ℤ) → answer.status ≡ status → (under_zero status ≡ 107 → ⊥) → (under_zero status ≡ 108 → ⊥) → Neither answer
other_status answer status is not_entries not_memory = record {
  entries = λ e. not_entries (ap under_zero (sym is ∙ e));
  memory = λ e. not_memory (ap under_zero (sym is ∙ e));
}

-- one that is done
well : (answer : Answer) → answer.status ≡ pos 0 → Neither answer
well answer is = other_status answer (pos 0) is (λ e. let z : 0 ≡ 107 = e in absurd (omega (arith, z))) (λ e. let z : 0 ≡ 108 = e in absurd (omega (arith, z)))

-- one that is refused with another number
numbered : (number : ℕ) (answer : Answer) → (number - 1 ≡ 107 → ⊥) → (number - 1 ≡ 108 → ⊥) → answer.status ≡ below_zero number → Neither answer
numbered number answer a b is = other_status answer (negsuc (number - 1)) is a b

-- the refusals of other checks
abbrev IsOther : Refusal → Type 0
IsOther NoEntries = ⊥
IsOther NoMemory = ⊥
IsOther _ = Unit {0}

checked : (refusal : Refusal) (answer : Answer) → IsOther refusal → IsAnsweredBy answer refusal → Neither answer
checked refusal answer o x = numbered (refusal_number refusal) answer (not_entries refusal o) (not_memory refusal o) x
  where
    not_entries : (refusal : Refusal) → IsOther refusal → refusal_number refusal - 1 ≡ 107 → ⊥
    not_entries NotHost o e = let z : 100 ≡ 107 = e in omega (arith, z)
    not_entries NotEnclave o e = let z : 100 ≡ 107 = e in omega (arith, z)
    not_entries BadCount o e = let z : 101 ≡ 107 = e in omega (arith, z)
    not_entries BadAddress o e = let z : 102 ≡ 107 = e in omega (arith, z)
    not_entries BadEntry o e = let z : 103 ≡ 107 = e in omega (arith, z)
    not_entries NotRam o e = let z : 104 ≡ 107 = e in omega (arith, z)
    not_entries Overlap o e = let z : 105 ≡ 107 = e in omega (arith, z)
    not_entries TableFull o e = let z : 106 ≡ 107 = e in omega (arith, z)
    not_entries NoEntries o e = o
    not_entries NoMemory o e = o
    not_entries BadId o e = let z : 109 ≡ 107 = e in omega (arith, z)
    not_entries BadState o e = let z : 110 ≡ 107 = e in omega (arith, z)
    not_entries BadWord o e = let z : 111 ≡ 107 = e in omega (arith, z)

    not_memory : (refusal : Refusal) → IsOther refusal → refusal_number refusal - 1 ≡ 108 → ⊥
    not_memory NotHost o e = let z : 100 ≡ 108 = e in omega (arith, z)
    not_memory NotEnclave o e = let z : 100 ≡ 108 = e in omega (arith, z)
    not_memory BadCount o e = let z : 101 ≡ 108 = e in omega (arith, z)
    not_memory BadAddress o e = let z : 102 ≡ 108 = e in omega (arith, z)
    not_memory BadEntry o e = let z : 103 ≡ 108 = e in omega (arith, z)
    not_memory NotRam o e = let z : 104 ≡ 108 = e in omega (arith, z)
    not_memory Overlap o e = let z : 105 ≡ 108 = e in omega (arith, z)
    not_memory TableFull o e = let z : 106 ≡ 108 = e in omega (arith, z)
    not_memory NoEntries o e = o
    not_memory NoMemory o e = o
    not_memory BadId o e = let z : 109 ≡ 108 = e in omega (arith, z)
    not_memory BadState o e = let z : 110 ≡ 108 = e in omega (arith, z)
    not_memory BadWord o e = let z : 111 ≡ 108 = e in omega (arith, z)

-- the first of some checks that fails is one of them
abbrev AreOthers : List (Refusal × Type 0) → Type 0
AreOthers [] = Unit {0}
AreOthers (check ∷ checks) = IsOther check.0 × AreOthers checks

fails_other : (checks : List (Refusal × Type 0)) (refusal : Refusal) → AreOthers checks → FailsFirst checks refusal → IsOther refusal
fails_other [] refusal o x = absurd x
fails_other (check ∷ checks) refusal o (inl x) = subst IsOther (sym x.0) o.0
fails_other (check ∷ checks) refusal o (inr x) = fails_other checks refusal o.1 x.1

-- the host's view of the table with the new enclave is the one with its private digests closed
closes : (digests : Create → List ℕ) (table : EnclaveTable) (id : ℕ) (parts : Create) → IsTable table → IsNextId table id
    → SameView (closed_view table parts) (host_view (with_enclave table id (Some (fresh digests parts))))
closes digests table id parts t next = host_added table id (fresh digests parts) (free_place table id t next.free.0 next.free.1) next.free.2

opens : (digests : Create → List ℕ) (table : EnclaveTable) (id : ℕ) (parts : Create) → IsTable table → IsNextId table id
    → SameView (host_view (with_enclave table id (Some (fresh digests parts)))) (closed_view table parts)
opens digests table id parts t next page small = sym (closes digests table id parts t next page small)

-- a call that succeeded or failed another check, which it then does not pass
otherwise : (call : Option Call) (table : EnclaveTable) (world : World) (answer : Answer) → ((wants_of call table world).0 → (wants_of call table world).1 → ⊥)
    → Neither answer → ByNeed call table world answer
otherwise call table world answer none n = record {
  entries = λ is. absurd (n.entries is);
  outgrown = λ pass out. absurd (none pass out);
  memory = λ is. absurd
      (n.memory is);
}

create_failed : (asked : Create) (s : MonitorState) (hart : ℕ) (answer : Answer) (refusal : Refusal)
    → FailsFirst (create_checks s.table (s.worlds hart) (parts_of asked)) refusal → IsOther refusal
    → IsAnsweredBy answer refusal → ByNeed (creates_of asked) s.table (s.worlds hart) answer
create_failed asked s hart answer refusal why other x =
    otherwise (creates_of asked) s.table (s.worlds hart) answer (λ pass out. none_fails
    (create_checks s.table (s.worlds hart) (parts_of asked)) refusal pass why) (checked refusal answer other x)

-- a creation that is refused, by its refusal
create_by_need : (asked : Create) (digests : Create → List ℕ) (s : MonitorState) (hart : ℕ) (answer : Answer) (refusal : Refusal) → IsTable s.table
    → RefusesBy (create_checks s.table (s.worlds hart) (parts_of asked)) (OutgrowsByCreate digests s.table asked) refusal
    → IsAnsweredBy answer refusal → ByNeed (creates_of asked) s.table (s.worlds hart) answer
create_by_need asked digests s hart answer NoEntries t why x = record {
  entries = λ is. (
    why.0,
    elim why.1 [
      | inl host ↦ inl (more_same s.table.layout.limit (host_view (with_enclave s.table host.0 (Some (fresh digests (parts_of asked)))))
          (closed_view s.table (parts_of asked)) (opens digests s.table host.0 (parts_of asked) t host.1) host.2)
      | inr own ↦ inr own
    ],
  );
  outgrown = λ pass out. inl x;
  memory = λ is. absurd (not_both answer is x);
}
create_by_need asked digests s hart answer NoMemory t why x = record {
  entries = λ is. absurd (not_both answer x is);
  outgrown = λ pass out. inr x;
  memory = λ is. why;
}
create_by_need asked digests s hart answer NotHost t why x = create_failed asked s hart answer NotHost why tt x
create_by_need asked digests s hart answer NotEnclave t why x = create_failed asked s hart answer NotEnclave why tt x
create_by_need asked digests s hart answer BadCount t why x = create_failed asked s hart answer BadCount why tt x
create_by_need asked digests s hart answer BadAddress t why x = create_failed asked s hart answer BadAddress why tt x
create_by_need asked digests s hart answer BadEntry t why x = create_failed asked s hart answer BadEntry why tt x
create_by_need asked digests s hart answer NotRam t why x = create_failed asked s hart answer NotRam why tt x
create_by_need asked digests s hart answer Overlap t why x = create_failed asked s hart answer Overlap why tt x
create_by_need asked digests s hart answer TableFull t why x = create_failed asked s hart answer TableFull why tt x
create_by_need asked digests s hart answer BadId t why x = create_failed asked s hart answer BadId why tt x
create_by_need asked digests s hart answer BadState t why x = create_failed asked s hart answer BadState why tt x
create_by_need asked digests s hart answer BadWord t why x = create_failed asked s hart answer BadWord why tt x

destroy_failed : (id : ℕ) (s : MonitorState) (hart : ℕ) (answer : Answer) (refusal : Refusal)
    → FailsFirst (host_checks MayDestroy s.table (s.worlds hart) id) refusal → IsOther refusal
    → IsAnsweredBy answer refusal → ByNeed (Some (calls.Destroy id)) s.table (s.worlds hart) answer
destroy_failed id s hart answer refusal why other x =
    otherwise (Some (calls.Destroy id)) s.table (s.worlds hart) answer (λ pass out. none_fails
    (host_checks MayDestroy s.table (s.worlds hart) id) refusal pass why) (checked refusal answer other x)

destroy_by_need : (id : ℕ) (s : MonitorState) (hart : ℕ) (answer : Answer) (refusal : Refusal)
    → RefusesBy (host_checks MayDestroy s.table (s.worlds hart) id) (NeedsMore s.table.layout.limit (host_view (with_enclave s.table id None))) refusal
    → IsAnsweredBy answer refusal → ByNeed (Some (calls.Destroy id)) s.table (s.worlds hart) answer
destroy_by_need id s hart answer NoEntries why x = record {
  entries = λ is. (why.0, why.1);
  outgrown = λ pass out. inl x;
  memory = λ is. absurd (not_both answer is x);
}
destroy_by_need id s hart answer NoMemory why x = record {
  entries = λ is. absurd (not_both answer x is);
  outgrown = λ pass out. inr x;
  memory = λ is. why;
}
destroy_by_need id s hart answer NotHost why x = destroy_failed id s hart answer NotHost why tt x
destroy_by_need id s hart answer NotEnclave why x = destroy_failed id s hart answer NotEnclave why tt x
destroy_by_need id s hart answer BadCount why x = destroy_failed id s hart answer BadCount why tt x
destroy_by_need id s hart answer BadAddress why x = destroy_failed id s hart answer BadAddress why tt x
destroy_by_need id s hart answer BadEntry why x = destroy_failed id s hart answer BadEntry why tt x
destroy_by_need id s hart answer NotRam why x = destroy_failed id s hart answer NotRam why tt x
destroy_by_need id s hart answer Overlap why x = destroy_failed id s hart answer Overlap why tt x
destroy_by_need id s hart answer TableFull why x = destroy_failed id s hart answer TableFull why tt x
destroy_by_need id s hart answer BadId why x = destroy_failed id s hart answer BadId why tt x
destroy_by_need id s hart answer BadState why x = destroy_failed id s hart answer BadState why tt x
destroy_by_need id s hart answer BadWord why x = destroy_failed id s hart answer BadWord why tt x

-- a call of another kind that is refused
refused_other : (call : Option Call) (checks : List (Refusal × Type 0)) (s : MonitorState) (hart : ℕ) (answer : Answer) (refusal : Refusal)
    → ((wants_of call s.table (s.worlds hart)).0 → ⊥) → AreOthers checks → FailsFirst checks refusal
    → IsAnsweredBy answer refusal → ByNeed call s.table (s.worlds hart) answer
refused_other call checks s hart answer refusal none others why x =
    never call s.table (s.worlds hart) answer none (checked refusal answer (fails_other checks refusal others why) x)

pub call_refused_by_need : (call : Option Call) (digests : Create → List ℕ) (s : MonitorState) (hart : ℕ) (answer : Answer) (zero : Option PageRange)
    (new : MonitorState) → IsTable s.table → DoesCall call digests s hart answer zero new → ByNeed call s.table (s.worlds hart) answer
call_refused_by_need None digests s hart answer zero new t x =
    never None s.table (s.worlds hart) answer (λ none. none) (numbered 2 answer (λ e. let z : 1 ≡ 107 = e in omega (arith, z))
    (λ e. let z : 1 ≡ 108 = e in omega (arith, z)) (refused_says 2 s hart answer zero new x))
call_refused_by_need (Some (calls.Create base text_pages data_pages shared_base shared_count entry_offset)) digests s hart answer zero new t (inl x) =
    let asked : Create = record {
      base = base;
      text_pages = text_pages;
      data_pages = data_pages;
      shared_base = shared_base;
      shared_count = shared_count;
      entry_offset = entry_offset;
    } in
    let parts = parts_of asked in
    let made = with_enclave s.table x.0 (Some (fresh digests parts)) in
    otherwise (creates_of asked) s.table (s.worlds hart) answer
    (λ pass out. elim out [
      | inl host ↦ fits_not_more s.table.layout.limit (host_view made) (subst (λ t. FitsIn t.layout.limit (host_view t)) x.2.added x.2.host_fits)
          (more_same s.table.layout.limit (closed_view s.table parts) (host_view made) (closes digests s.table x.0 parts t x.2.next) host)
      | inr own ↦ fits_not_more s.table.layout.limit (enclave_view parts)
          (subst (λ t. FitsIn t.layout.limit (enclave_view parts)) x.2.added x.2.enclave_fits) own
    ])
    (well answer (done_says _ _ _ answer zero new x.3))
call_refused_by_need (Some (calls.Create base text_pages data_pages shared_base shared_count entry_offset)) digests s hart answer zero new t (inr x) =
    let asked : Create = record {
      base = base;
      text_pages = text_pages;
      data_pages = data_pages;
      shared_base = shared_base;
      shared_count = shared_count;
      entry_offset = entry_offset;
    } in
    create_by_need asked digests s hart answer x.0 t x.1 (refused_says _ s hart answer zero new x.2)
call_refused_by_need (Some (calls.Destroy id)) digests s hart answer zero new t (inl x) =
    otherwise (Some (calls.Destroy id)) s.table (s.worlds hart) answer
    (λ pass out. fits_not_more s.table.layout.limit (host_view (with_enclave s.table id None))
    (subst (λ t. FitsIn t.layout.limit (host_view t)) x.2.removed x.2.host_fits) out) (well answer (done_says _ _ _ answer zero new x.3))
call_refused_by_need (Some (calls.Destroy id)) digests s hart answer zero new t (inr x) = destroy_by_need id s hart answer x.0 x.1
    (refused_says _ s hart answer zero new x.2)
call_refused_by_need (Some (calls.Run id)) digests s hart answer zero new t (inl x) = never (Some (calls.Run id)) s.table (s.worlds hart) answer (λ none. none)
    (well answer (done_says _ _ _ answer zero new x.4))
call_refused_by_need (Some (calls.Run id)) digests s hart answer zero new t (inr x) = refused_other (Some (calls.Run id))
    (host_checks (λ state. state ≡ Fresh) s.table (s.worlds hart) id) s hart answer x.0 (λ none. none) (tt, (tt, (tt, tt))) x.1
    (refused_says _ s hart answer zero new x.2)
call_refused_by_need (Some calls.Stop) digests s hart answer zero new t (inl x) = never (Some calls.Stop) s.table (s.worlds hart) answer (λ none. none)
    (well answer (done_says _ _ _ answer zero new x.3))
call_refused_by_need (Some calls.Stop) digests s hart answer zero new t (inr x) = refused_other (Some calls.Stop)
    (leave_checks (s.worlds hart)) s hart answer x.0 (λ none. none) (tt, tt) x.1 (refused_says _ s hart answer zero new x.2)
call_refused_by_need (Some (calls.Resume id)) digests s hart answer zero new t (inl x) = never (Some (calls.Resume id)) s.table (s.worlds hart) answer
    (λ none. none) (well answer (done_says _ _ _ answer zero new x.4))
call_refused_by_need (Some (calls.Resume id)) digests s hart answer zero new t (inr x) = refused_other (Some (calls.Resume id))
    (host_checks (λ state. state ≡ Stopped) s.table (s.worlds hart) id) s hart answer x.0 (λ none. none) (tt, (tt, (tt, tt))) x.1
    (refused_says _ s hart answer zero new x.2)
call_refused_by_need (Some (calls.Exit value)) digests s hart answer zero new t (inl x) = never (Some (calls.Exit value)) s.table (s.worlds hart) answer
    (λ none. none) (well answer (done_says _ _ _ answer zero new x.3))
call_refused_by_need (Some (calls.Exit value)) digests s hart answer zero new t (inr x) = refused_other (Some (calls.Exit value))
    (leave_checks (s.worlds hart)) s hart answer x.0 (λ none. none) (tt, tt) x.1 (refused_says _ s hart answer zero new x.2)
call_refused_by_need (Some (calls.Measure id k)) digests s hart answer zero new t (inl x) = never (Some (calls.Measure id k)) s.table (s.worlds hart) answer
    (λ none. none) (well answer (done_says _ _ _ answer zero new x.2))
call_refused_by_need (Some (calls.Measure id k)) digests s hart answer zero new t (inr x) = refused_other (Some (calls.Measure id k))
    (word_checks s.table id k) s hart answer x.0 (λ none. none) (tt, (tt, tt)) x.1 (refused_says _ s hart answer zero new x.2)
