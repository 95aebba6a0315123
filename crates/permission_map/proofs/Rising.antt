-- Runs by rising page, one list after another, and what their view gives below, at and after a run.
use Rattle.std.proofs.Common.{◌≡◌, ◌≢◌, ℕ, ◌+◌, ◌<◌, ◌≤◌, ⊎_elim, List, [], ◌∷◌, ◌++◌, true, false, cond, refl, sym, ap, ◌∙◌, arith}
use Rattle.std.specs.List.{AllByRecursion}
use Rattle.std.proofs.lemmas.Bool.{cases_eq, cond-true, cond-false}
use Rattle.std.proofs.lemmas.Bool.Decides.{nat_tests}
use Rattle.pmp_encoding.specs.declared.perm.Perm.{Perm}
use Rattle.pmp_encoding.specs.declared.perm.Perm.TheVariants.{NoAccess}
use Rattle.permission_map.specs.declared.runs.Run.{Run}
use Rattle.permission_map.specs.Runs.{end_of, AreRunsAfter, in_range, view_of_runs}
use Rattle.permission_map.specs.Overwrite.{last_end, last_perm}

-- ---- a page and a range

pub range_above : (first count page : ℕ) → page < first → in_range first count page ≡ false
range_above first count page h = grind (arith, nat_tests)

pub range_past : (first count page : ℕ) → first + count ≤ page → in_range first count page ≡ false
range_past first count page h = grind (arith, nat_tests)

pub range_has : (first count page : ℕ) → first ≤ page → page < first + count → in_range first count page ≡ true
range_has first count page h k = grind (arith, nat_tests)

-- ---- a page and the first run of a list

pub view_above : (run : Run) (runs : List Run) (page : ℕ) → page < run.first → view_of_runs (run ∷ runs) page ≡ view_of_runs runs page
view_above run runs page h = cond-false (in_range run.first run.count page) run.perm (view_of_runs runs page) (range_above run.first run.count page h)

pub view_past : (run : Run) (runs : List Run) (page : ℕ) → end_of run ≤ page → view_of_runs (run ∷ runs) page ≡ view_of_runs runs page
view_past run runs page h = cond-false (in_range run.first run.count page) run.perm (view_of_runs runs page) (range_past run.first run.count page h)

pub view_in : (run : Run) (runs : List Run) (page : ℕ) → run.first ≤ page → page < end_of run → view_of_runs (run ∷ runs) page ≡ run.perm
view_in run runs page h k = cond-true (in_range run.first run.count page) run.perm (view_of_runs runs page) (range_has run.first run.count page h k)

-- ---- pages before the runs

pub view_before : (at : ℕ) (p : Perm) (runs : List Run) (page : ℕ) → AreRunsAfter at p runs → page < at → view_of_runs runs page ≡ NoAccess
view_before at p [] page are low = refl
view_before at p (run ∷ runs) page are low =
    let begin : at ≤ run.first = are.0.rising in
    view_above run runs page (omega arith) ∙ view_before (end_of run) run.perm runs page are.1 (omega arith)

-- the page before a run, and the first page of it, differ
pub view_differs : (at : ℕ) (p : Perm) (runs : List Run) → AreRunsAfter at p runs → p ≢ NoAccess → view_of_runs runs at ≢ p
view_differs at p [] are some same = some (sym same)
view_differs at p (run ∷ runs) are some same =
    let begin : at ≤ run.first = are.0.rising in
    let count : 0 < run.count = are.0.some in
    ⊎_elim
    (λ touch. are.0.maximal touch (sym (view_in run runs at (omega arith) (omega arith)) ∙ same))
    (λ apart.
    some (sym same ∙ view_above run runs at (omega arith) ∙ view_before (end_of run) run.perm runs at are.1 (omega arith)))
    (cases_eq at run.first)

-- ---- one list after another

pub runs_first : (at : ℕ) (p : Perm) (xs ys : List Run) → AreRunsAfter at p (xs ++ ys) → AreRunsAfter at p xs
runs_first at p [] ys are = tt
runs_first at p (x ∷ xs) ys are = (are.0, runs_first (end_of x) x.perm xs ys are.1)

pub runs_second : (at : ℕ) (p : Perm) (xs ys : List Run) → AreRunsAfter at p (xs ++ ys) → AreRunsAfter (last_end at xs) (last_perm p xs) ys
runs_second at p [] ys are = are
runs_second at p (x ∷ xs) ys are = runs_second (end_of x) x.perm xs ys are.1

pub runs_append : (at : ℕ) (p : Perm) (xs ys : List Run) → AreRunsAfter at p xs → AreRunsAfter (last_end at xs) (last_perm p xs) ys
    → AreRunsAfter at p (xs ++ ys)
runs_append at p [] ys are more = more
runs_append at p (x ∷ xs) ys are more = (are.0, runs_append (end_of x) x.perm xs ys are.1 more)

pub last_end-append : (at : ℕ) (xs ys : List Run) → last_end at (xs ++ ys) ≡ last_end (last_end at xs) ys
last_end-append at [] ys = refl
last_end-append at (x ∷ xs) ys = last_end-append (end_of x) xs ys

pub last_perm-append : (p : Perm) (xs ys : List Run) → last_perm p (xs ++ ys) ≡ last_perm (last_perm p xs) ys
last_perm-append p [] ys = refl
last_perm-append p (x ∷ xs) ys = last_perm-append x.perm xs ys

pub last_end-le : (at : ℕ) (p : Perm) (xs : List Run) → AreRunsAfter at p xs → at ≤ last_end at xs
last_end-le at p [] are = omega arith
last_end-le at p (x ∷ xs) are =
    let begin : at ≤ x.first = are.0.rising in
    let rest : end_of x ≤ last_end (end_of x) xs = last_end-le (end_of x) x.perm xs are.1 in
    omega arith

-- after a list the second gives the view
pub view_second : (at : ℕ) (p : Perm) (xs ys : List Run) (page : ℕ) → AreRunsAfter at p xs → last_end at xs ≤ page
    → view_of_runs (xs ++ ys) page ≡ view_of_runs ys page
view_second at p [] ys page are behind = refl
view_second at p (x ∷ xs) ys page are behind =
    let rest : end_of x ≤ last_end (end_of x) xs = last_end-le (end_of x) x.perm xs are.1 in
    view_past x (xs ++ ys) page (omega arith) ∙ view_second (end_of x) x.perm xs ys page are.1 behind

-- the same list before two others
pub view_alike : (xs ys zs : List Run) (page : ℕ) → view_of_runs ys page ≡ view_of_runs zs page → view_of_runs (xs ++ ys) page ≡ view_of_runs (xs ++ zs) page
view_alike [] ys zs page same = same
view_alike (x ∷ xs) ys zs page same = ap (λ q. cond (in_range x.first x.count page) x.perm q) (view_alike xs ys zs page same)

-- ---- the same runs from another page on

pub runs_apart : (at next : ℕ) (p q : Perm) (runs : List Run) → AreRunsAfter at p runs → AllByRecursion (λ run. next < run.first) runs
    → AreRunsAfter next q runs
runs_apart at next p q [] are later = tt
runs_apart at next p q (run ∷ runs) are later =
    let begin : next < run.first = later.0 in
    (record { rising = omega arith; maximal = λ touch. absurd (omega arith); some = are.0.some; allows = are.0.allows; inside = are.0.inside }, are.1)

-- runs from a page on are runs from an earlier page on, whatever is before it
pub runs_earlier : (at before : ℕ) (p q : Perm) (runs : List Run) → AreRunsAfter at p runs → before < at → AreRunsAfter before q runs
runs_earlier at before p q [] are earlier = tt
runs_earlier at before p q (run ∷ runs) are earlier =
    let begin : at ≤ run.first = are.0.rising in
    (record { rising = omega arith; maximal = λ touch. absurd (omega arith); some = are.0.some; allows = are.0.allows; inside = are.0.inside }, are.1)
