-- A search by halves in runs by rising page.
use Rattle.std.proofs.Common.{◌≡◌, ℕ, zero, suc, ◌+◌, ◌-◌, ◌<◌, ◌≤◌, List, [], ◌∷◌, ◌++◌, length, take, drop, get_or, All, refl, sym, ap, ◌∙◌, arith}
use Rattle.std.proofs.Common.{length-take, length-drop}
use Rattle.std.specs.List.{AllByRecursion, Contains}
use Rattle.std.specs.List.Sorted.{IsPartitionPoint, IsNonDecreasingBy}
use Rattle.std.proofs.lemmas.List.{take-append-drop, drop_all, drop_more, get_or-take, get_or-drop}
use Rattle.std.proofs.lemmas.List.Elements.{recursion_from_All, All-head, Contains-get_or}
use Rattle.pmp_encoding.specs.declared.perm.Perm.{Perm}
use Rattle.pmp_encoding.specs.declared.perm.Perm.TheVariants.{NoAccess}
use Rattle.permission_map.specs.declared.runs.Run.{Run}
use Rattle.permission_map.specs.Runs.{end_of, AreRunsAfter, AreRuns, view_of_runs}
use Rattle.permission_map.specs.Search.{IsNext}
use Rattle.permission_map.specs.Overwrite.{last_end, last_perm}
use Rattle.permission_map.proofs.Rising.{view_above, view_past, view_in, view_before, view_differs, runs_first, runs_second, view_second}

-- ---- the ends rise, and so do the first pages

begins_after : (at : ℕ) (p : Perm) (runs : List Run) → AreRunsAfter at p runs → (j : ℕ) (d : Run) → j < length runs → at ≤ (get_or runs j d).first
begins_after at p [] are j d inside = absurd (omega arith)
begins_after at p (run ∷ runs) are zero d inside = are.0.rising
begins_after at p (run ∷ runs) are (suc j) d inside =
    let begin : at ≤ run.first = are.0.rising in
    let rest : end_of run ≤ (get_or runs j d).first = begins_after (end_of run) run.perm runs are.1 j d (omega arith) in
    omega arith

firsts_rise_at : (at : ℕ) (p : Perm) (runs : List Run) → AreRunsAfter at p runs → (i j : ℕ) (d : Run) → i ≤ j → j < length runs
    → (get_or runs i d).first ≤ (get_or runs j d).first
firsts_rise_at at p [] are i j d order inside = absurd (omega arith)
firsts_rise_at at p (run ∷ runs) are zero zero d order inside = omega arith
firsts_rise_at at p (run ∷ runs) are zero (suc j) d order inside =
    let rest : end_of run ≤ (get_or runs j d).first = begins_after (end_of run) run.perm runs are.1 j d (omega arith) in
    omega arith
firsts_rise_at at p (run ∷ runs) are (suc i) zero d order inside = absurd (omega arith)
firsts_rise_at at p (run ∷ runs) are (suc i) (suc j) d order inside = firsts_rise_at (end_of run) run.perm runs are.1 i j d (omega arith) (omega arith)

ends_rise_at : (at : ℕ) (p : Perm) (runs : List Run) → AreRunsAfter at p runs → (i j : ℕ) (d : Run) → i ≤ j → j < length runs
    → end_of (get_or runs i d) ≤ end_of (get_or runs j d)
ends_rise_at at p [] are i j d order inside = absurd (omega arith)
ends_rise_at at p (run ∷ runs) are zero zero d order inside = omega arith
ends_rise_at at p (run ∷ runs) are zero (suc j) d order inside =
    let rest : end_of run ≤ (get_or runs j d).first = begins_after (end_of run) run.perm runs are.1 j d (omega arith) in
    omega arith
ends_rise_at at p (run ∷ runs) are (suc i) zero d order inside = absurd (omega arith)
ends_rise_at at p (run ∷ runs) are (suc i) (suc j) d order inside = ends_rise_at (end_of run) run.perm runs are.1 i j d (omega arith) (omega arith)

pub firsts_rise : (at : ℕ) (p : Perm) (runs : List Run) → AreRunsAfter at p runs → IsNonDecreasingBy (λ run. run.first) runs
firsts_rise at p runs are = λ i j d order inside. firsts_rise_at at p runs are i j d order inside

pub ends_rise : (at : ℕ) (p : Perm) (runs : List Run) → AreRunsAfter at p runs → IsNonDecreasingBy end_of runs
ends_rise at p runs are = λ i j d order inside. ends_rise_at at p runs are i j d order inside

-- ---- what a search by halves finds, as two parts of the list

pub point_front : {X : Type 0} (P Q : X → Type 0) (xs : List X) (i : ℕ) → i ≤ length xs → IsPartitionPoint P Q xs i → All P (take i xs)
point_front P Q xs i most point = λ k d inside.
    let low : k < i = omega (arith, length-take i xs) in
    rw (get_or-take i xs k d low) (point.0 k d (omega arith) low)

pub point_rest : {X : Type 0} (P Q : X → Type 0) (xs : List X) (i : ℕ) → i ≤ length xs → IsPartitionPoint P Q xs i → All Q (drop i xs)
point_rest P Q xs i most point = λ k d inside.
    rw (get_or-drop i xs k d) (point.1 (i + k) d (omega arith) (omega (arith, length-drop i xs)))

-- ---- the run at a page

-- runs that are over before a page say nothing of it
view_over : (xs ys : List Run) (page : ℕ) → AllByRecursion (λ run. end_of run ≤ page) xs → view_of_runs (xs ++ ys) page ≡ view_of_runs ys page
view_over [] ys page over = refl
view_over (x ∷ xs) ys page over = view_past x (xs ++ ys) page over.0 ∙ view_over xs ys page over.1

over_later : (xs : List Run) (page q : ℕ) → page ≤ q → AllByRecursion (λ run. end_of run ≤ page) xs → AllByRecursion (λ run. end_of run ≤ q) xs
over_later [] page q more over = tt
over_later (x ∷ xs) page q more over =
    let here : end_of x ≤ page = over.0 in
    (omega arith, over_later xs page q more over.1)

pub nothing_next :
    (runs : List Run) (page i : ℕ) → All (λ run. end_of run ≤ page) (take i runs) → length runs ≤ i → (q : ℕ) → page ≤ q → view_of_runs runs q ≡ NoAccess
nothing_next runs page i over all q more =
    let parts : take i runs ++ drop i runs ≡ runs = take-append-drop i runs in
    let none : drop i runs ≡ [] = drop_all i runs all in
    let low : AllByRecursion (λ run. end_of run ≤ q) (take i runs) = over_later (take i runs) page q more
    (recursion_from_All (λ run. end_of run ≤ page) (take i runs) over) in
    ap (λ rs. view_of_runs rs q) (sym parts) ∙ view_over (take i runs) (drop i runs) q low ∙ ap (λ rs. view_of_runs rs q) none

next_at :
    (runs before rest : List Run) (page : ℕ) (run : Run) → AreRuns runs → runs ≡ before ++ run ∷ rest → AllByRecursion (λ r. end_of r ≤ page) before
    → page < end_of run
    → Contains runs run → IsNext runs page run
next_at runs before rest page run are parts over behind has =
    let both : AreRuns (before ++ run ∷ rest) = rw parts at are in
    let from : AreRunsAfter (last_end 0 before) (last_perm NoAccess before) (run ∷ rest) = runs_second 0 NoAccess before (run ∷ rest) both in
    let tail : AreRunsAfter (end_of run) run.perm rest = from.1 in
    let begin : last_end 0 before ≤ run.first = from.0.rising in
    let some : 0 < run.count = from.0.some in
    record {
      one_of = has;
      is_run = record { rising = omega arith; maximal = λ _. from.0.allows; some = from.0.some; allows = from.0.allows; inside = from.0.inside };
      behind = behind;
      none_between =
          λ q more low.
          ap (λ rs. view_of_runs rs q) parts
          ∙ view_over before (run ∷ rest) q (over_later before page q more over)
          ∙ view_above run rest q low
          ∙ view_before (end_of run) run.perm rest q tail (omega arith);
      one_perm =
          λ q low high.
          ap (λ rs. view_of_runs rs q) parts ∙ view_second 0 NoAccess before (run ∷ rest) q (runs_first 0 NoAccess before (run ∷ rest) both) (omega arith)
          ∙ view_in run rest q low high;
      changes =
          λ same.
          view_differs (end_of run) run.perm rest tail from.0.allows
          (sym (view_past run rest (end_of run) (omega arith))
          ∙ sym (view_second 0 NoAccess before (run ∷ rest) (end_of run) (runs_first 0 NoAccess before (run ∷ rest) both) (omega arith))
          ∙ sym (ap (λ rs. view_of_runs rs (end_of run)) parts)
          ∙ same);
    }

pub next_is :
    (runs : List Run) (page i : ℕ) (d : Run) → AreRuns runs → All (λ run. end_of run ≤ page) (take i runs) → All (λ run. page < end_of run) (drop i runs)
    → i < length runs
    → IsNext runs page (get_or runs i d)
next_is runs page i d are over behind inside =
    let split : drop i runs ≡ get_or runs i d ∷ drop (i + 1) runs = drop_more runs i d inside in
    let parts : runs ≡ take i runs ++ get_or runs i d ∷ drop (i + 1) runs = sym (take-append-drop i runs) ∙ ap (λ rs. take i runs ++ rs) split in
    let head : All (λ run. page < end_of run) (get_or runs i d ∷ drop (i + 1) runs) = rw split at behind in
    next_at runs (take i runs) (drop (i + 1) runs) page (get_or runs i d) are parts
    (recursion_from_All (λ run. end_of run ≤ page) (take i runs) over)
    (All-head (λ run. page < end_of run) (get_or runs i d) (drop (i + 1) runs) head)
    (Contains-get_or runs i d inside)

-- ---- blocks that are not of one permission

-- a block in which the next run begins after the first page
pub begins_inside :
    (runs : List Run) (first size : ℕ) (run : Run) → IsNext runs first run → first < run.first → run.first < first + size
    → (perm : Perm) → ((i : ℕ) → i < size → view_of_runs runs (first + i) ≡ perm) → ⊥
begins_inside runs first size run next low high perm same =
    let there : first + (run.first - first) ≡ run.first = omega arith in
    let none : view_of_runs runs (first + 0) ≡ NoAccess = next.none_between (first + 0) (omega arith) (omega arith) in
    let some : 0 < run.count = next.is_run.some in
    next.is_run.allows
    (sym (next.one_perm run.first (omega arith) (omega arith))
    ∙ (rw there at (same (run.first - first) (omega arith)))
    ∙ sym (same 0 (omega arith))
    ∙ none)

-- a block that goes on after the end of the run that has its first page
pub ends_inside :
    (runs : List Run) (first size : ℕ) (run : Run) → IsNext runs first run → run.first ≤ first → end_of run < first + size
    → (perm : Perm) → ((i : ℕ) → i < size → view_of_runs runs (first + i) ≡ perm) → ⊥
ends_inside runs first size run next low high perm same =
    let behind : first < end_of run = next.behind in
    let there : first + (end_of run - first) ≡ end_of run = omega arith in
    let here : view_of_runs runs (first + 0) ≡ run.perm = next.one_perm (first + 0) (omega arith) (omega arith) in
    next.changes ((rw there at (same (end_of run - first) (omega arith))) ∙ sym (same 0 (omega arith)) ∙ here)
