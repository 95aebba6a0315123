-- How many runs a view has, counted page by page, in a tree and in a list of runs.
use Rattle.std.proofs.Common.{◌≡◌, ◌≢◌, ℕ, zero, suc, ◌+◌, ◌-◌, ◌^◌, ◌<◌, ◌≤◌, List, [], ◌∷◌, length, Bool, true, false, if◌then◌else◌, refl, sym, ap, ap₂, ◌∙◌}
use Rattle.std.proofs.Common.{arith, pow-suc, pow_pos}
use Rattle.std.specs.Prelude.{◌||◌}
use Rattle.std.proofs.lemmas.Bool.{lt-ltb, le-ltb, le-leb, lt-leb, and_left, and_right, and_from}
use Rattle.pmp_encoding.specs.declared.perm.Perm.{Perm}
use Rattle.pmp_encoding.specs.declared.perm.Perm.TheVariants.{NoAccess, Read, ReadWrite, Execute, ReadExecute, ReadWriteExecute}
use Rattle.pmp_encoding.specs.Perms.{perm_eq}
use Rattle.permission_map.specs.declared.runs.Run.{Run}
use Rattle.permission_map.specs.Runs.{end_of, in_range, view_of_runs, IsRunAfter, AreRunsAfter, AreRuns}
use Rattle.permission_map.specs.Views.{SameView}
use Rattle.prefix_tree.specs.Trees.{PermTree, Uniform, Split, TreeMeansAt, TreeMeans}
use Rattle.prefix_tree.specs.Counts.{first_perm, last_perm, starts, starts_inside, runs_in}
use Rattle.prefix_tree.proofs.SamePerm.{not_same}

-- how many runs start in the n pages from `at` on, where the page before has the permission `before`
abbrev starts_over : (ℕ → Perm) → Perm → ℕ → ℕ → ℕ
starts_over v before at zero = 0
starts_over v before at (suc n) = starts before (v at) + starts_over v (v at) (suc at) n

-- the permission of the last of them
abbrev last_over : (ℕ → Perm) → Perm → ℕ → ℕ → Perm
last_over v before at zero = before
last_over v before at (suc n) = last_over v (v at) (suc at) n

starts_same : (q : Perm) → starts q q ≡ 0
starts_same NoAccess = refl
starts_same Read = refl
starts_same ReadWrite = refl
starts_same Execute = refl
starts_same ReadExecute = refl
starts_same ReadWriteExecute = refl

or_false : (s t : Bool) → s ≡ false → t ≡ false → s || t ≡ false
or_false false false e f = refl
or_false false true e f = f
or_false true t e f = absurd (let h : true ≡ false = e in cc)

starts_one : (p q : Perm) → q ≢ NoAccess → q ≢ p → starts p q ≡ 1
starts_one p q some other = ap (λ t. if t then 0 else 1) (or_false (perm_eq q NoAccess) (perm_eq q p) (not_same q NoAccess some) (not_same q p other))

-- ---- one stretch after another

starts_over-append :
    (v : ℕ → Perm) (before : Perm) (at m n : ℕ)
    → starts_over v before at (m + n) ≡ starts_over v before at m + starts_over v (last_over v before at m) (at + m) n
starts_over-append v before at zero n =
    let e : zero + n ≡ n = omega arith in
    let f : at + zero ≡ at = omega arith in
    let g : 0 + starts_over v before at n ≡ starts_over v before at n = omega arith in
    ap (starts_over v before at) e ∙ sym (ap (λ a. 0 + starts_over v before a n) f ∙ g)
starts_over-append v before at (suc m) n =
    let e : suc m + n ≡ suc (m + n) = omega arith in
    let f : suc at + m ≡ at + suc m = omega arith in
    let rest : starts_over v (v at) (suc at) (m + n) ≡ starts_over v (v at) (suc at) m + starts_over v (last_over v (v at) (suc at) m) (suc at + m) n =
    starts_over-append v (v at) (suc at) m n in
    let moved : starts_over v (last_over v (v at) (suc at) m) (suc at + m) n ≡ starts_over v (last_over v (v at) (suc at) m) (at + suc m) n =
    ap (λ a. starts_over v (last_over v (v at) (suc at) m) a n) f in
    ap (starts_over v before at) e
    ∙ (let sum : starts before (v at) + starts_over v (v at) (suc at) (m + n) ≡ starts before (v at) + starts_over v (v at) (suc at) m + starts_over v
    (last_over v (v at) (suc at) m) (at + suc m) n = omega arith in sum)

last_over-append :
    (v : ℕ → Perm) (before : Perm) (at m n : ℕ) → last_over v before at (m + n) ≡ last_over v (last_over v before at m) (at + m) n
last_over-append v before at zero n =
    let e : zero + n ≡ n = omega arith in
    let f : at + zero ≡ at = omega arith in
    ap (last_over v before at) e ∙ sym (ap (λ a. last_over v before a n) f)
last_over-append v before at (suc m) n =
    let e : suc m + n ≡ suc (m + n) = omega arith in
    let f : suc at + m ≡ at + suc m = omega arith in
    ap (last_over v before at) e ∙ last_over-append v (v at) (suc at) m n ∙ ap (λ a. last_over v (last_over v (v at) (suc at) m) a n) f

-- ---- a stretch of one permission

abbrev IsAll : (ℕ → Perm) → Perm → ℕ → ℕ → Type 0
IsAll v q at n = (i : ℕ) → i < n → v (at + i) ≡ q

all_head : (v : ℕ → Perm) (q : Perm) (at n : ℕ) → IsAll v q at (suc n) → v at ≡ q
all_head v q at n all = let e : at ≡ at + 0 = omega arith in ap v e ∙ all 0 (omega arith)

all_tail : (v : ℕ → Perm) (q : Perm) (at n : ℕ) → IsAll v q at (suc n) → IsAll v q (suc at) n
all_tail v q at n all = λ i h. let e : suc at + i ≡ at + suc i = omega arith in ap v e ∙ all (suc i) (omega arith)

all_none : (v : ℕ → Perm) (q : Perm) (at n : ℕ) → IsAll v q at n → starts_over v q at n ≡ 0
all_none v q at zero all = refl
all_none v q at (suc n) all =
    rw (all_head v q at n all) (rw (starts_same q, all_none v q (suc at) n (all_tail v q at n all)) refl)

all_starts : (v : ℕ → Perm) (before q : Perm) (at n : ℕ) → 0 < n → IsAll v q at n → starts_over v before at n ≡ starts before q
all_starts v before q at zero some all = absurd (omega arith)
all_starts v before q at (suc n) some all =
    rw (all_head v q at n all) (let none : starts_over v q (suc at) n ≡ 0 = all_none v q (suc at) n (all_tail v q at n all) in omega arith)

all_last : (v : ℕ → Perm) (q : Perm) (at n : ℕ) → IsAll v q at n → last_over v q at n ≡ q
all_last v q at zero all = refl
all_last v q at (suc n) all = rw (all_head v q at n all) (all_last v q (suc at) n (all_tail v q at n all))

some_last : (v : ℕ → Perm) (before q : Perm) (at n : ℕ) → 0 < n → IsAll v q at n → last_over v before at n ≡ q
some_last v before q at zero some all = absurd (omega arith)
some_last v before q at (suc n) some all = rw (all_head v q at n all) (all_last v q (suc at) n (all_tail v q at n all))

-- no run starts where no page has a permission
none_start : (v : ℕ → Perm) (before : Perm) (at n : ℕ) → IsAll v NoAccess at n → starts_over v before at n ≡ 0
none_start v before at zero all = refl
none_start v before at (suc n) all =
    rw (all_head v NoAccess at n all) (let none : starts_over v NoAccess (suc at) n ≡ 0 = all_none v NoAccess (suc at) n
    (all_tail v NoAccess at n all) in omega arith)

-- ---- the runs of a tree

last_tree : (v : ℕ → Perm) (before : Perm) (k at : ℕ) (tree : PermTree) → TreeMeansAt v k at tree → last_over v before at (2 ^ k) ≡ last_perm tree
last_tree v before k at (Uniform q) means = some_last v before q at (2 ^ k) (pow_pos k) means
last_tree v before zero at (Split lower upper) means = absurd means
last_tree v before (suc k) at (Split lower upper) means =
    let double : 2 ^ suc k ≡ 2 ^ k + 2 ^ k = pow-suc 2 k ∙ omega arith in
    ap (last_over v before at) double ∙ last_over-append v before at (2 ^ k) (2 ^ k) ∙ last_tree v (last_over v before at (2 ^ k)) k (at + 2 ^ k) upper means.1

starts_tree :
    (v : ℕ → Perm) (before : Perm) (k at : ℕ) (tree : PermTree) → TreeMeansAt v k at tree
    → starts_over v before at (2 ^ k) ≡ starts before (first_perm tree) + starts_inside tree
starts_tree v before k at (Uniform q) means = all_starts v before q at (2 ^ k) (pow_pos k) means ∙ omega arith
starts_tree v before zero at (Split lower upper) means = absurd means
starts_tree v before (suc k) at (Split lower upper) means =
    let double : 2 ^ suc k ≡ 2 ^ k + 2 ^ k = pow-suc 2 k ∙ omega arith in
    let low : starts_over v before at (2 ^ k) ≡ starts before (first_perm lower) + starts_inside lower = starts_tree v before k at lower means.0 in
    let high : starts_over v (last_perm lower) (at + 2 ^ k) (2 ^ k) ≡ starts (last_perm lower) (first_perm upper) + starts_inside upper =
    starts_tree v (last_perm lower) k (at + 2 ^ k) upper means.1 in
    let cut : starts_over v before at (2 ^ k + 2 ^ k) ≡ starts_over v before at (2 ^ k) + starts_over v (last_perm lower) (at + 2 ^ k) (2 ^ k) =
    starts_over-append v before at (2 ^ k) (2 ^ k) ∙ ap (λ p. starts_over v before at (2 ^ k) + starts_over v p (at + 2 ^ k) (2 ^ k))
    (last_tree v before k at lower means.0) in
    ap (starts_over v before at) double ∙ cut ∙ omega arith

-- ---- the runs of a list

pub before_runs : (at page : ℕ) (before : Perm) (runs : List Run) → AreRunsAfter at before runs → page < at → view_of_runs runs page ≡ NoAccess
before_runs at page before [] are lt = refl
before_runs at page before (run ∷ runs) are lt =
    let out : in_range run.first run.count page ≡ false = and_left _ _ (lt-leb run.first page (omega arith)) in
    rw out (before_runs (end_of run) page run.perm runs are.1 (omega arith))

pub before_run :
    (page : ℕ) (run : Run) (runs : List Run) → AreRunsAfter (end_of run) run.perm runs → page < run.first → view_of_runs (run ∷ runs) page ≡ NoAccess
before_run page run runs are lt =
    let out : in_range run.first run.count page ≡ false = and_left _ _ (lt-leb run.first page lt) in
    rw out (before_runs (end_of run) page run.perm runs are (omega arith))

pub in_run : (page : ℕ) (run : Run) (runs : List Run) → run.first ≤ page → page < end_of run → view_of_runs (run ∷ runs) page ≡ run.perm
in_run page run runs low high =
    let held : in_range run.first run.count page ≡ true = and_from _ _ (le-leb run.first page low) (lt-ltb page (run.first + run.count) high) in rw held refl

pub behind_run : (page : ℕ) (run : Run) (runs : List Run) → end_of run ≤ page → view_of_runs (run ∷ runs) page ≡ view_of_runs runs page
behind_run page run runs far =
    let out : in_range run.first run.count page ≡ false = and_right _ _ (le-ltb page (run.first + run.count) far) in rw out refl

-- the run has another permission than the page before it
run_apart :
    (v : ℕ → Perm) (before : Perm) (at g : ℕ) (run : Run) → IsRunAfter at before run → at + g ≡ run.first → IsAll v NoAccess at g
    → run.perm ≢ last_over v before at g
run_apart v before at zero run is e gap = is.maximal (omega arith)
run_apart v before at (suc g) run is e gap = λ same. is.allows (same ∙ some_last v before NoAccess at (suc g) (omega arith) gap)

-- one run, and what is after it
run_counts :
    (v : ℕ → Perm) (before : Perm) (at g m : ℕ) (run : Run) (runs : List Run) → AreRunsAfter at before (run ∷ runs) → at + g ≡ run.first
    → ((i : ℕ) → i < g + (run.count + m) → v (at + i) ≡ view_of_runs (run ∷ runs) (at + i))
    → starts_over v run.perm (end_of run) m ≡ length runs → starts_over v before at (g + (run.count + m)) ≡ suc (length runs)
run_counts v before at g m run runs are e same rest =
    let gap : IsAll v NoAccess at g = λ i h. same i (omega arith) ∙ before_run (at + i) run runs are.1 (omega arith) in
    let held : IsAll v run.perm (at + g) run.count =
    λ i h. let f : at + g + i ≡ at + (g + i) = omega arith in ap v f ∙ same (g + i) (omega arith)
    ∙ in_run (at + (g + i)) run runs (omega arith) (omega arith) in
    let none : starts_over v before at g ≡ 0 = none_start v before at g gap in
    let l : Perm = last_over v before at g in
    let one : starts_over v (last_over v before at g) (at + g) run.count ≡ 1 =
    all_starts v l run.perm (at + g) run.count are.0.some held ∙ starts_one l run.perm are.0.allows (run_apart v before at g run are.0 e gap) in
    let end : at + g + run.count ≡ end_of run = omega arith in
    let tail : starts_over v (last_over v (last_over v before at g) (at + g) run.count) (at + g + run.count) m ≡ length runs =
    ap₂ (λ p a. starts_over v p a m) (some_last v l run.perm (at + g) run.count are.0.some held) end ∙ rest in
    let cut : starts_over v before at (g + (run.count + m)) ≡ starts_over v before at g + starts_over v (last_over v before at g) (at + g) (run.count + m) =
    starts_over-append v before at g (run.count + m) in
    let cut' :
    starts_over v (last_over v before at g) (at + g) (run.count + m)
    ≡ starts_over v (last_over v before at g) (at + g) run.count + starts_over v (last_over v (last_over v before at g) (at + g) run.count)
    (at + g + run.count) m =
    starts_over-append v l (at + g) run.count m in
    omega arith

starts_runs :
    (v : ℕ → Perm) (before : Perm) (at n : ℕ) (runs : List Run) → AreRunsAfter at before runs → 2 ^ 44 ≤ at + n
    → ((i : ℕ) → i < n → v (at + i) ≡ view_of_runs runs (at + i)) → starts_over v before at n ≡ length runs
starts_runs v before at n [] are far same = none_start v before at n same
starts_runs v before at n (run ∷ runs) are far same =
    let g : ℕ = run.first - at in
    let m : ℕ = n - (run.first - at + run.count) in
    let inside = are.0.inside in
    let rising = are.0.rising in
    let e : n ≡ run.first - at + (run.count + (n - (run.first - at + run.count))) = omega arith in
    ap (starts_over v before at) e
    ∙ run_counts v before at g m run runs are (omega arith) (λ i h. same i (omega arith))
    (starts_runs v run.perm (end_of run) m runs are.1 (omega arith)
    (λ i h.
    let f : end_of run + i ≡ at + (run.first - at + (run.count + i)) = omega arith in
    ap v f
    ∙ same (run.first - at + (run.count + i)) (omega arith)
    ∙ ap (view_of_runs (run ∷ runs)) (sym f)
    ∙ behind_run (end_of run + i) run runs (omega arith)))

-- a tree has as many runs as any list of maximal runs of its view
pub runs_in-length : (v : ℕ → Perm) (tree : PermTree) (runs : List Run) → TreeMeans v tree → AreRuns runs → SameView (view_of_runs runs) v
    → runs_in tree ≡ length runs
runs_in-length v tree runs means are same =
    sym (starts_tree v NoAccess 44 0 tree means)
    ∙ starts_runs v NoAccess 0 (2 ^ 44) runs are (omega arith) (λ i h. sym (same (0 + i) (omega arith)))
