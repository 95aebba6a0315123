-- Each view has a list of maximal runs.
use Rattle.std.proofs.Common.{◌≡◌, ◌≢◌, ℕ, zero, suc, ◌+◌, ◌^◌, ◌<◌, ◌≤◌, ◌⊎◌, inl, inr, ⊎_elim, List, [], ◌∷◌, Bool, true, false, refl, sym, ap, ◌∙◌, arith}
use Rattle.std.proofs.lemmas.Bool.{cases_lt}
use Rattle.pmp_encoding.specs.declared.perm.Perm.{Perm}
use Rattle.pmp_encoding.specs.declared.perm.Perm.TheVariants.{NoAccess}
use Rattle.pmp_encoding.specs.Perms.{perm_eq}
use Rattle.permission_map.specs.declared.runs.Run.{Run}
use Rattle.permission_map.specs.Runs.{end_of, view_of_runs, AreRunsAfter}
use Rattle.prefix_tree.specs.RunsOf.{AreRunsOf}
use Rattle.prefix_tree.proofs.SamePerm.{perm_eq-true, perm_eq-same}
use Rattle.prefix_tree.proofs.RunCount.{before_runs, in_run, behind_run}

-- the maximal runs of the pages from `at` on
pub record AreFrom (view : ℕ → Perm) (at : ℕ) (runs : List Run) : Type 0 where
  pub are_runs : AreRunsAfter at NoAccess runs
  pub view_is : (page : ℕ) → at ≤ page → page < 2 ^ 44 → view_of_runs runs page ≡ view page

same_or_not : (p q : Perm) → (p ≡ q) ⊎ (p ≢ q)
same_or_not p q = go (perm_eq p q) refl
  where
    go : (t : Bool) → perm_eq p q ≡ t → (p ≡ q) ⊎ (p ≢ q)
    go true is = inl (perm_eq-true p q is)
    go false is = inr (λ e. let yes : perm_eq p q ≡ true = perm_eq-same p q e in let no : ⊥ = cc in no)

-- the same runs, where the page before them has no permission
earlier : (at : ℕ) (runs : List Run) → AreRunsAfter (suc at) NoAccess runs → AreRunsAfter at NoAccess runs
earlier at [] are = tt
earlier at (run ∷ runs) are =
    (record { rising = omega (arith, are.0.rising); maximal = λ e. are.0.allows; some = are.0.some; allows = are.0.allows; inside = are.0.inside }, are.1)

-- ---- a page put before runs

blank : (view : ℕ → Perm) (at : ℕ) (runs : List Run) → AreFrom view (suc at) runs → view at ≡ NoAccess → AreFrom view at runs
blank view at runs are none = record {
  are_runs = earlier at runs are.are_runs;
  view_is = λ page low high.
      ⊎_elim (λ more. are.view_is page (omega arith) high)
      (λ less.
      let e : page ≡ at = omega arith in
      before_runs (suc at) page NoAccess runs are.are_runs (omega arith) ∙ sym (ap view e ∙ none))
      (cases_lt at page);
}

abbrev page_run : ℕ → Perm → Run
page_run at p = record { first = at; count = 1; perm = p }

-- a run of its own
apart :
    (view : ℕ → Perm) (at : ℕ) (p : Perm) (runs : List Run) → at < 2 ^ 44 → AreFrom view (suc at) runs → AreRunsAfter (at + 1) p runs → view at ≡ p
    → p ≢ NoAccess
    → AreFrom view at (page_run at p ∷ runs)
apart view at p runs inside are behind is some = record {
  are_runs = (record { rising = omega arith; maximal = λ e. some; some = omega arith; allows = some; inside = omega arith }, behind);
  view_is = λ page low high.
      ⊎_elim
      (λ more. behind_run page (page_run at p) runs (omega arith) ∙ are.view_is page (omega arith) high)
      (λ less.
      let e : page ≡ at = omega arith in
      in_run page (page_run at p) runs (omega arith) (omega arith) ∙ sym (ap view e ∙ is))
      (cases_lt at page);
}

-- the first run, begun a page earlier
grown : (at : ℕ) (run : Run) → Run
grown at run = record { first = at; count = suc run.count; perm = run.perm }

longer :
    (view : ℕ → Perm) (at : ℕ) (run : Run) (runs : List Run) → AreFrom view (suc at) (run ∷ runs) → run.first ≡ suc at → view at ≡ run.perm
    → AreFrom view at (grown at run ∷ runs)
unfolding grown
longer view at run runs are next is =
    let head = are.are_runs.0 in
    let inside = head.inside in
    let end : at + suc run.count ≡ end_of run = omega arith in
    record {
      are_runs = (
        record { rising = omega arith; maximal = λ e. head.allows; some = omega arith; allows = head.allows; inside = omega arith },
        rw end are.are_runs.1,
      );
      view_is = λ page low high.
          ⊎_elim
          (λ more.
          ⊎_elim
          (λ within.
          in_run page (grown at run) runs (omega arith) (omega arith) ∙ sym (in_run page run runs (omega arith) within) ∙ are.view_is page (omega arith) high)
          (λ far.
          behind_run page (grown at run) runs (omega arith) ∙ sym (behind_run page run runs far) ∙ are.view_is page (omega arith) high)
          (cases_lt page (end_of run)))
          (λ less.
          let e : page ≡ at = omega arith in
          in_run page (grown at run) runs (omega arith) (omega arith) ∙ sym (ap view e ∙ is))
          (cases_lt at page);
    }

-- ---- page by page

put : (view : ℕ → Perm) (at : ℕ) (runs : List Run) → at < 2 ^ 44 → AreFrom view (suc at) runs → view at ≢ NoAccess → (new : List Run) × AreFrom view at new
put view at [] inside are some = (page_run at (view at) ∷ [], apart view at (view at) [] inside are tt refl some)
put view at (run ∷ runs) inside are some =
    ⊎_elim
    (λ gap. new_run (λ e. absurd (omega arith)))
    (λ next. ⊎_elim (λ same. (grown at run ∷ runs, longer view at run runs are (omega (arith, are.are_runs.0.rising)) (sym same)))
    (λ other. new_run (λ e. other)) (same_or_not run.perm (view at)))
    (cases_lt (suc at) run.first)
  where
    new_run : (at + 1 ≡ run.first → run.perm ≢ view at) → (new : List Run) × AreFrom view at new
    new_run maximal =
        let head = are.are_runs.0 in
        let rising = head.rising in
        let behind : AreRunsAfter (at + 1) (view at) (run ∷ runs) =
        (record { rising = omega arith; maximal = maximal; some = head.some; allows = head.allows; inside = head.inside }, are.are_runs.1) in
        (page_run at (view at) ∷ (run ∷ runs), apart view at (view at) (run ∷ runs) inside are behind refl some)

runs_from : (view : ℕ → Perm) (n at : ℕ) → at + n ≡ 2 ^ 44 → (runs : List Run) × AreFrom view at runs
runs_from view zero at end = ([], record { are_runs = tt; view_is = λ page low high. absurd (omega arith) })
runs_from view (suc n) at end =
    let rest = runs_from view n (suc at) (omega arith) in
    ⊎_elim (λ none. (rest.0, blank view at rest.0 rest.1 none)) (λ some. put view at rest.0 (omega arith) rest.1 some) (same_or_not (view at) NoAccess)

pub runs_exist : (view : ℕ → Perm) → (runs : List Run) × AreRunsOf view runs
runs_exist view =
    let all = runs_from view (2 ^ 44) 0 (omega arith) in
    (all.0, record { are_runs = all.1.are_runs; view_is = λ page high. all.1.view_is page (omega arith) high })
