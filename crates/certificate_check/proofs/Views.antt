-- What the last runs of a map say of a page.
use Rattle.std.proofs.Common.{◌≡◌, ◌≢◌, ℕ, ◌+◌, ◌<◌, ◌≤◌, List, [], ◌∷◌, length, cond, true, false, ⊎_elim, arith, refl, sym, ap, ◌∙◌}
use Rattle.std.specs.Prelude.{slice_index_or}
use Rattle.std.proofs.lemmas.Bool.{cases_lt}
use Rattle.std.proofs.lemmas.Bool.Decides.{nat_tests}
use Rattle.pmp_encoding.specs.declared.perm.Perm.{Perm}
use Rattle.pmp_encoding.specs.declared.perm.Perm.TheVariants.{NoAccess}
use Rattle.permission_map.specs.declared.runs.Run.{Run}
use Rattle.permission_map.specs.Runs.{AreRunsAfter, end_of, in_range, view_of_runs}
use Rattle.certificate_check.specs.Later.{AreLaterRuns}

outside_low : (first count at : ℕ) → at < first → in_range first count at ≡ false
outside_low first count at h = grind (arith, nat_tests)

outside_high : (first count at : ℕ) → first + count ≤ at → in_range first count at ≡ false
outside_high first count at h = grind (arith, nat_tests)

-- before the first page of the runs there is no access
before_all : (b : ℕ) (p : Perm) (runs : List Run) (at : ℕ) → AreRunsAfter b p runs → at < b → view_of_runs runs at ≡ NoAccess
before_all b p [] at later h = refl
before_all b p (run ∷ runs) at later h =
    let rising = later.0.rising in
    let low : at < run.first = omega arith in
    let before : at < end_of run = omega arith in
    ap (λ t. cond t run.perm (view_of_runs runs at)) (outside_low run.first run.count at low) ∙ before_all (end_of run) run.perm runs at later.1 before

pub before_first : (runs : List Run) (d : Run) (at : ℕ) → AreLaterRuns runs → 1 ≤ length runs → at < (slice_index_or runs 0 d).first
    → view_of_runs runs at ≡ NoAccess
before_first [] d at later some h = absurd (omega arith)
before_first (run ∷ runs) d at (b, p, later) some h =
    let low : at < run.first = h in
    let before : at < end_of run = omega arith in
    ap (λ t. cond t run.perm (view_of_runs runs at)) (outside_low run.first run.count at low) ∙ before_all (end_of run) run.perm runs at later.1 before

-- a run that has ended says nothing of later pages
pub past_first : (run : Run) (runs : List Run) (at : ℕ) → end_of run ≤ at → view_of_runs (run ∷ runs) at ≡ view_of_runs runs at
past_first run runs at h = ap (λ t. cond t run.perm (view_of_runs runs at)) (outside_high run.first run.count at h)

-- after a run another permission stands, up to the end of the space: the runs are maximal
behind_run : (run : Run) (runs : List Run) → AreRunsAfter (end_of run) run.perm runs → run.perm ≢ NoAccess → view_of_runs runs (end_of run) ≢ run.perm
behind_run run [] later allows is = allows (sym is)
behind_run run (next ∷ runs) later allows is =
    ⊎_elim
    (λ gap. allows (sym is ∙ before_first (next ∷ runs) next (end_of run) (end_of run, run.perm, later) (omega arith) gap))
    (λ upto.
    let at : end_of run ≡ next.first = (let r = later.0.rising in omega arith) in
    let inside : in_range next.first next.count (end_of run) ≡ true = (let some = later.0.some in grind (arith, nat_tests)) in
    later.0.maximal at (sym (ap (λ t. cond t next.perm (view_of_runs runs (end_of run))) inside) ∙ is))
    (cases_lt (end_of run) next.first)

pub first_whole :
    (runs : List Run) (d : Run) → AreLaterRuns runs → 1 ≤ length runs → view_of_runs runs (end_of (slice_index_or runs 0 d)) ≢ (slice_index_or runs 0 d).perm
first_whole [] d later some is = absurd (omega arith)
first_whole (run ∷ runs) d (b, p, later) some is = behind_run run runs later.1 later.0.allows (sym (past_first run runs (end_of run) (omega arith)) ∙ is)

-- before a run there is no access, and at its first page another permission
pub first_begins : (runs : List Run) (d : Run) → AreLaterRuns runs → 1 ≤ length runs → view_of_runs runs (slice_index_or runs 0 d).first ≢ NoAccess
first_begins [] d later some is = absurd (omega arith)
first_begins (run ∷ runs) d (b, p, later) some is =
    let inside : in_range run.first run.count run.first ≡ true = (let some = later.0.some in grind (arith, nat_tests)) in
    later.0.allows (sym (ap (λ t. cond t run.perm (view_of_runs runs run.first)) inside) ∙ is)
