-- The runs that meet a block, cut at its middle.
use Rattle.std.proofs.Common.{◌≡◌, ℕ, zero, suc, ◌+◌, ◌-◌, ◌^◌, ◌<◌, ◌≤◌, ⊎_elim, List, [], ◌∷◌, take, drop, get_or, Bool, false, cond, nat_lt, nat_le}
use Rattle.std.proofs.Common.{count_by, refl, sym, ap, arith}
use Rattle.std.proofs.lemmas.Bool.{cases_lt, lt-ltb, le-ltb, le-leb, lt-leb, and_left, and_right}
use Rattle.std.proofs.lemmas.List.Recursion.{is_count_by}
use Rattle.pmp_encoding.specs.declared.perm.Perm.TheVariants.{NoAccess}
use Rattle.pmp_encoding.specs.declared.perm.Perm.{Perm}
use Rattle.permission_map.specs.declared.runs.Run.{Run}
use Rattle.permission_map.specs.Runs.{end_of, in_range, view_of_runs, AreRunsAfter, AreRuns}
use Rattle.prefix_tree.specs.Slices.{MeetBehind}

abbrev pub begins_before : ℕ → Run → Bool
begins_before page run = nat_lt run.first page

abbrev pub ends_before : ℕ → Run → Bool
ends_before page run = nat_le run.count (page - run.first)

pub meet_earlier : (at at' low high : ℕ) (runs : List Run) → at' ≤ at → MeetBehind at low high runs → MeetBehind at' low high runs
meet_earlier at at' low high [] le meet = tt
meet_earlier at at' low high (run ∷ runs) le meet =
    (record { rising = omega arith; some = meet.0.some; begins = meet.0.begins; ends = meet.0.ends }, meet.1)

-- how many of the runs pass the test
abbrev counted : (Run → Bool) → List Run → ℕ
counted p [] = 0
counted p (run ∷ runs) = cond (p run) (suc (counted p runs)) (counted p runs)

counted-is : (p : Run → Bool) (runs : List Run) → counted p runs ≡ count_by p runs
counted-is p runs = is_count_by (counted p) p refl (λ run rest. let e : suc (counted p rest) ≡ 1 + counted p rest = omega arith in ap
    (λ n. cond (p run) n (counted p rest)) e) runs

-- runs after a page are none of those that begin before it, or end before it
none_begin : (at low high page : ℕ) (runs : List Run) → page ≤ at → MeetBehind at low high runs → counted (begins_before page) runs ≡ 0
none_begin at low high page [] le meet = refl
none_begin at low high page (run ∷ runs) le meet =
    rw (le-ltb run.first page (omega arith)) (none_begin (end_of run) low high page runs (omega arith) meet.1)

none_end : (at low high page : ℕ) (runs : List Run) → page ≤ at → MeetBehind at low high runs → counted (ends_before page) runs ≡ 0
none_end at low high page [] le meet = refl
none_end at low high page (run ∷ runs) le meet =
    rw (lt-leb run.count (page - run.first) (omega arith)) (none_end (end_of run) low high page runs (omega arith) meet.1)

-- ---- the lower half

begun_meet :
    (at low high page : ℕ) (runs : List Run) → MeetBehind at low high runs → MeetBehind at low page (take (counted (begins_before page) runs) runs)
begun_meet at low high page [] meet = tt
begun_meet at low high page (run ∷ runs) meet =
    ⊎_elim
    (λ below.
    rw (lt-ltb run.first page below)
    (record { rising = meet.0.rising; some = meet.0.some; begins = below; ends = meet.0.ends }, begun_meet (end_of run) low high page runs meet.1))
    (λ above. rw (le-ltb run.first page above, none_begin (end_of run) low high page runs (omega arith) meet.1) tt)
    (cases_lt run.first page)

-- runs after a page do not have it
not_yet : (at low high page : ℕ) (runs : List Run) → page < at → MeetBehind at low high runs → view_of_runs runs page ≡ NoAccess
not_yet at low high page [] lt meet = refl
not_yet at low high page (run ∷ runs) lt meet =
    let out : in_range run.first run.count page ≡ false = and_left _ _ (lt-leb run.first page (omega arith)) in
    rw out (not_yet (end_of run) low high page runs (omega arith) meet.1)

begun_view :
    (at low high page q : ℕ) (runs : List Run) → MeetBehind at low high runs → q < page
    → view_of_runs (take (counted (begins_before page) runs) runs) q ≡ view_of_runs runs q
begun_view at low high page q [] meet before = refl
begun_view at low high page q (run ∷ runs) meet before =
    ⊎_elim
    (λ below.
    rw (lt-ltb run.first page below) (ap (cond (in_range run.first run.count q) run.perm) (begun_view (end_of run) low high page q runs meet.1 before)))
    (λ above.
    rw (le-ltb run.first page above, none_begin (end_of run) low high page runs (omega arith) meet.1)
    (sym (not_yet (q + 1) low high q (run ∷ runs) (omega arith) (meet_earlier run.first (q + 1) low high (run ∷ runs) (omega arith)
    (record { rising = omega arith; some = meet.0.some; begins = meet.0.begins; ends = meet.0.ends }, meet.1)))))
    (cases_lt run.first page)

-- ---- the upper half

behind_meet : (at low high page : ℕ) (runs : List Run) → page ≤ at → MeetBehind at low high runs → MeetBehind at page high runs
behind_meet at low high page [] le meet = tt
behind_meet at low high page (run ∷ runs) le meet = (
  record { rising = meet.0.rising; some = meet.0.some; begins = meet.0.begins; ends = omega arith },
  behind_meet (end_of run) low high page runs
      (omega arith) meet.1,
)

ended_meet :
    (at low high page : ℕ) (runs : List Run) → MeetBehind at low high runs → MeetBehind at page high (drop (counted (ends_before page) runs) runs)
ended_meet at low high page [] meet = tt
ended_meet at low high page (run ∷ runs) meet =
    ⊎_elim
    (λ goes.
    rw (lt-leb run.count (page - run.first) goes, none_end (end_of run) low high page runs (omega arith) meet.1) (
      record { rising = meet.0.rising; some = meet.0.some; begins = meet.0.begins; ends = omega arith },
      behind_meet (end_of run) low high page runs
          (omega arith) meet.1,
    ))
    (λ ends.
    rw (le-leb run.count (page - run.first) ends)
    (meet_earlier (end_of run) at page high (drop (counted (ends_before page) runs) runs) (omega arith) (ended_meet (end_of run) low high page runs meet.1)))
    (cases_lt (page - run.first) run.count)

ended_view :
    (at low high page q : ℕ) (runs : List Run) → MeetBehind at low high runs → page ≤ q
    → view_of_runs (drop (counted (ends_before page) runs) runs) q ≡ view_of_runs runs q
ended_view at low high page q [] meet before = refl
ended_view at low high page q (run ∷ runs) meet before =
    ⊎_elim
    (λ goes.
    rw (lt-leb run.count (page - run.first) goes, none_end (end_of run) low high page runs (omega arith) meet.1) refl)
    (λ ends.
    let out : in_range run.first run.count q ≡ false = and_right _ _ (le-ltb q (run.first + run.count) (omega arith)) in
    rw (le-leb run.count (page - run.first) ends, out) (ended_view (end_of run) low high page q runs meet.1 before))
    (cases_lt (page - run.first) run.count)

-- ---- the same, as the code counts

pub lower_meet :
    (low high page : ℕ) (runs : List Run) → MeetBehind 0 low high runs → MeetBehind 0 low page (take (count_by (begins_before page) runs) runs)
lower_meet low high page runs meet = rw (← counted-is (begins_before page) runs) (begun_meet 0 low high page runs meet)

pub lower_view :
    (low high page q : ℕ) (runs : List Run) → MeetBehind 0 low high runs → q < page
    → view_of_runs (take (count_by (begins_before page) runs) runs) q ≡ view_of_runs runs q
lower_view low high page q runs meet before = rw (← counted-is (begins_before page) runs) (begun_view 0 low high page q runs meet before)

pub upper_meet :
    (low high page : ℕ) (runs : List Run) → MeetBehind 0 low high runs → MeetBehind 0 page high (drop (count_by (ends_before page) runs) runs)
upper_meet low high page runs meet = rw (← counted-is (ends_before page) runs) (ended_meet 0 low high page runs meet)

pub upper_view :
    (low high page q : ℕ) (runs : List Run) → MeetBehind 0 low high runs → page ≤ q
    → view_of_runs (drop (count_by (ends_before page) runs) runs) q ≡ view_of_runs runs q
upper_view low high page q runs meet before = rw (← counted-is (ends_before page) runs) (ended_view 0 low high page q runs meet before)

-- the runs of a map meet the whole space
pub runs_meet : (at : ℕ) (before : Perm) (runs : List Run) → AreRunsAfter at before runs → MeetBehind at 0 (0 + 2 ^ 44) runs
runs_meet at before [] are = tt
runs_meet at before (run ∷ runs) are =
    let inside = are.0.inside in
    let some = are.0.some in
    (record { rising = are.0.rising; some = are.0.some; begins = omega arith; ends = omega arith }, runs_meet (end_of run) run.perm runs are.1)

-- ---- the runs that end before a page: those that begin before it, but the last of these where it goes on

-- so many of the runs end before the page, where the first `begun` of them are those that begin before it
abbrev EndedIs : ℕ → List Run → Run → ℕ → ℕ → Type 0
EndedIs page runs d zero ended = ended ≡ 0
EndedIs page runs d (suc k) ended =
    ((get_or runs k d).count ≤ page - (get_or runs k d).first → ended ≡ suc k)
    × (page - (get_or runs k d).first < (get_or runs k d).count → ended ≡ k)

behind_ended :
    (run : Run) (runs : List Run) (d : Run) (page begun ended : ℕ) → run.count ≤ page - run.first → EndedIs page runs d begun ended
    → EndedIs page (run ∷ runs) d (suc begun) (suc ended)
behind_ended run runs d page zero ended ends is = (λ some. ap suc is, λ goes. absurd (omega (arith, goes, ends)))
behind_ended run runs d page (suc k) ended ends is = (λ some. ap suc (is.0 some), λ goes. ap suc (is.1 goes))

ended_is :
    (at low high page : ℕ) (runs : List Run) (d : Run) → MeetBehind at low high runs
    → EndedIs page runs d (counted (begins_before page) runs) (counted (ends_before page) runs)
ended_is at low high page [] d meet = refl
ended_is at low high page (run ∷ runs) d meet =
    ⊎_elim
    (λ below.
    ⊎_elim
    (λ goes.
    rw (
      lt-ltb run.first page below,
      lt-leb run.count (page - run.first) goes,
      none_begin (end_of run) low high page runs (omega arith) meet.1,
      none_end
          (end_of run) low high page runs (omega arith) meet.1,
    )
    (λ ends. absurd (omega (arith, ends, goes)), λ later. refl))
    (λ ends.
    rw (lt-ltb run.first page below, le-leb run.count (page - run.first) ends)
    (behind_ended run runs d page (counted (begins_before page) runs) (counted (ends_before page) runs) ends
    (ended_is (end_of run) low high page runs d meet.1)))
    (cases_lt (page - run.first) run.count))
    (λ above.
    rw (
      le-ltb run.first page above,
      lt-leb run.count (page - run.first) (omega (arith, meet.0.some)),
      none_begin (end_of run) low high page runs
          (omega arith) meet.1,
      none_end (end_of run) low high page runs (omega arith) meet.1,
    )
    refl)
    (cases_lt run.first page)

ended_by :
    (runs : List Run) (page begun : ℕ) (d : Run) → AreRuns runs → begun ≡ count_by (begins_before page) runs
    → EndedIs page runs d begun (count_by (ends_before page) runs)
ended_by runs page begun d are is =
    rw (is, ← counted-is (begins_before page) runs, ← counted-is (ends_before page) runs)
    (ended_is 0 0 (0 + 2 ^ 44) page runs d (runs_meet 0 NoAccess runs are))

pub none_ended : (runs : List Run) (page : ℕ) (d : Run) → AreRuns runs → 0 ≡ count_by (begins_before page) runs → 0 ≡ count_by (ends_before page) runs
none_ended runs page d are is = sym (ended_by runs page 0 d are is)

pub last_ended :
    (runs : List Run) (page k : ℕ) (d : Run) → AreRuns runs → suc k ≡ count_by (begins_before page) runs
    → (get_or runs k d).count ≤ page - (get_or runs k d).first → suc k ≡ count_by (ends_before page) runs
last_ended runs page k d are is ends = sym ((ended_by runs page (suc k) d are is).0 ends)

pub last_goes_on :
    (runs : List Run) (page k : ℕ) (d : Run) → AreRuns runs → suc k ≡ count_by (begins_before page) runs
    → page - (get_or runs k d).first < (get_or runs k d).count → k ≡ count_by (ends_before page) runs
last_goes_on runs page k d are is goes = sym ((ended_by runs page (suc k) d are is).1 goes)
