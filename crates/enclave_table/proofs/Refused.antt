-- Refusals of the calls that plan.
use Rattle.std.proofs.Common.{ℕ, ◌≡◌, ◌∙◌, ap, sym, subst, Result, Ok, Err, inl, inr, ⊎_elim, Bool, true, false, List, [], ◌∷◌, Some, None, refl}
use Rattle.std.specs.Result.{IsErrAnd, IfErr}
use Rattle.std.proofs.lemmas.Bool.{true≢false}
use Rattle.pmp_match.specs.Meaning.{View}
use Rattle.permission_map.specs.Views.{SameView}
use Rattle.enclave_table.specs.Enclaves.{EnclaveTable, with_enclave, IsNextId}
use Rattle.measurement.specs.Requests.{parts_of}
use Rattle.enclave_table.specs.Views.{host_view, enclave_view}
use Rattle.platforms.specs.CheckLists.{AllPass, FailsFirst}
use Rattle.enclave_table.specs.Refusals.{RefusesBy}
use Rattle.enclave_table.specs.Checks.{create_checks, host_checks, MayDestroy}
use Rattle.enclave_table.specs.Fewest.{IsWant, NeedsMore}
use Rattle.enclave_table.specs.Create.{fresh, OutgrowsByCreate}
use Rattle.measurement.specs.declared.request.Create.{Create}
use Rattle.enclave_table.specs.declared.refusal.Refusal.{Refusal}
use Rattle.enclave_table.specs.declared.refusal.Refusal.TheVariants.{NotHost, NotEnclave, BadCount, BadAddress, BadEntry, NotRam, Overlap, TableFull, NoEntries}
use Rattle.enclave_table.specs.declared.refusal.Refusal.TheVariants.{NoMemory, BadId, BadState, BadWord}
use Rattle.sbi_decode.specs.declared.world.World.{World}
use Rattle.enclave_table.proofs.SameViews.{more_same}

is_want : Refusal → Bool
is_want NoEntries = true
is_want NoMemory = true
is_want _ = false

none_want : List (Refusal × Type 0) → Type 0
none_want [] = Unit {0}
none_want (c ∷ cs) = (is_want c.0 ≡ false) × none_want cs

unwanted : (checks : List (Refusal × Type 0)) (refusal : Refusal) → none_want checks → FailsFirst checks refusal → is_want refusal ≡ false
unfolding is_want none_want
unwanted [] refusal none fails = absurd fails
unwanted (c ∷ cs) refusal none fails = ⊎_elim (λ here. ap is_want here.0 ∙ none.0) (λ later. unwanted cs refusal none.1 later.1) fails

pub create_fails :
    (digests : Create → List ℕ) (old : EnclaveTable) (world : World) (asked : Create) (refusal : Refusal)
    → FailsFirst (create_checks old world (parts_of asked)) refusal
    → RefusesBy (create_checks old world (parts_of asked)) (OutgrowsByCreate digests old asked) refusal
unfolding is_want none_want
create_fails digests old world asked NoEntries fails = absurd (true≢false
    (unwanted (create_checks old world (parts_of asked)) NoEntries (refl, (refl, (refl, (refl, (refl, (refl, (refl, tt))))))) fails))
create_fails digests old world asked NoMemory fails = absurd (true≢false (unwanted (create_checks old world (parts_of asked)) NoMemory
    (refl, (refl, (refl, (refl, (refl, (refl, (refl, tt))))))) fails))
create_fails digests old world asked NotHost fails = fails
create_fails digests old world asked NotEnclave fails = fails
create_fails digests old world asked BadCount fails = fails
create_fails digests old world asked BadAddress fails = fails
create_fails digests old world asked BadEntry fails = fails
create_fails digests old world asked NotRam fails = fails
create_fails digests old world asked Overlap fails = fails
create_fails digests old world asked TableFull fails = fails
create_fails digests old world asked BadId fails = fails
create_fails digests old world asked BadState fails = fails
create_fails digests old world asked BadWord fails = fails

pub create_host_want :
    (digests : Create → List ℕ) (old : EnclaveTable) (world : World) (asked : Create) (id : ℕ) (view : View) (refusal : Refusal)
    → AllPass (create_checks old world (parts_of asked)) → IsNextId old id
    → SameView view (host_view (with_enclave old id (Some (fresh digests (parts_of asked))))) → IsWant old.layout.limit view refusal
    → RefusesBy (create_checks old world (parts_of asked)) (OutgrowsByCreate digests old asked) refusal
create_host_want digests old world asked id view NoEntries passes next same want =
    (passes, inl (id, next, more_same old.layout.limit view (host_view (with_enclave old id (Some (fresh digests (parts_of asked))))) same want))
create_host_want digests old world asked id view NoMemory passes next same want = passes
create_host_want digests old world asked id view NotHost passes next same want = absurd want
create_host_want digests old world asked id view NotEnclave passes next same want = absurd want
create_host_want digests old world asked id view BadCount passes next same want = absurd want
create_host_want digests old world asked id view BadAddress passes next same want = absurd want
create_host_want digests old world asked id view BadEntry passes next same want = absurd want
create_host_want digests old world asked id view NotRam passes next same want = absurd want
create_host_want digests old world asked id view Overlap passes next same want = absurd want
create_host_want digests old world asked id view TableFull passes next same want = absurd want
create_host_want digests old world asked id view BadId passes next same want = absurd want
create_host_want digests old world asked id view BadState passes next same want = absurd want
create_host_want digests old world asked id view BadWord passes next same want = absurd want

pub create_enclave_want :
    (digests : Create → List ℕ) (old : EnclaveTable) (world : World) (asked : Create) (refusal : Refusal) → AllPass (create_checks old world (parts_of asked))
    → IsWant old.layout.limit (enclave_view (parts_of asked)) refusal → RefusesBy (create_checks old world (parts_of asked))
    (OutgrowsByCreate digests old asked) refusal
create_enclave_want digests old world asked NoEntries passes want = (passes, inr want)
create_enclave_want digests old world asked NoMemory passes want = passes
create_enclave_want digests old world asked NotHost passes want = absurd want
create_enclave_want digests old world asked NotEnclave passes want = absurd want
create_enclave_want digests old world asked BadCount passes want = absurd want
create_enclave_want digests old world asked BadAddress passes want = absurd want
create_enclave_want digests old world asked BadEntry passes want = absurd want
create_enclave_want digests old world asked NotRam passes want = absurd want
create_enclave_want digests old world asked Overlap passes want = absurd want
create_enclave_want digests old world asked TableFull passes want = absurd want
create_enclave_want digests old world asked BadId passes want = absurd want
create_enclave_want digests old world asked BadState passes want = absurd want
create_enclave_want digests old world asked BadWord passes want = absurd want

pub destroy_want :
    (old : EnclaveTable) (world : World) (id : ℕ) (view : View) (refusal : Refusal) → AllPass (host_checks MayDestroy old world id)
    → SameView view (host_view (with_enclave old id None)) → IsWant old.layout.limit view refusal
    → RefusesBy (host_checks MayDestroy old world id) (NeedsMore old.layout.limit (host_view (with_enclave old id None))) refusal
destroy_want old world id view NoEntries passes same want = (passes, more_same old.layout.limit view (host_view (with_enclave old id None)) same want)
destroy_want old world id view NoMemory passes same want = passes
destroy_want old world id view NotHost passes same want = absurd want
destroy_want old world id view NotEnclave passes same want = absurd want
destroy_want old world id view BadCount passes same want = absurd want
destroy_want old world id view BadAddress passes same want = absurd want
destroy_want old world id view BadEntry passes same want = absurd want
destroy_want old world id view NotRam passes same want = absurd want
destroy_want old world id view Overlap passes same want = absurd want
destroy_want old world id view TableFull passes same want = absurd want
destroy_want old world id view BadId passes same want = absurd want
destroy_want old world id view BadState passes same want = absurd want
destroy_want old world id view BadWord passes same want = absurd want

-- a refusal that is passed on
pub handed_on : {T : Type 0} (result : Result T Refusal) (refusal : Refusal) (P : Refusal → Type 0) → IsErrAnd result (λ r. r ≡ refusal) → P refusal
    → IfErr result P
handed_on (Ok x) refusal P h p = tt
handed_on (Err r) refusal P h p = subst P (sym h) p
