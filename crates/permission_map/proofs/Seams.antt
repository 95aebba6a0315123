-- What a range leaves of the runs on either side of it.
use Rattle.std.proofs.Common.{◌≡◌, ◌≢◌, ℕ, ◌+◌, ◌-◌, ◌^◌, ◌<◌, ◌≤◌, ◌⊎◌, inl, inr, ⊎_elim, List, [], ◌∷◌, ◌++◌, refl, sym, ap, ◌∙◌, arith}
use Rattle.std.specs.List.{AllByRecursion}
use Rattle.std.proofs.lemmas.Bool.{cases_lt}
use Rattle.std.proofs.lemmas.List.{append-nil}
use Rattle.pmp_encoding.specs.declared.perm.Perm.{Perm}
use Rattle.pmp_encoding.specs.declared.perm.Perm.TheVariants.{NoAccess}
use Rattle.permission_map.specs.declared.runs.Run.{Run}
use Rattle.permission_map.specs.Runs.{end_of, AreRunsAfter, AreRuns, view_of_runs}
use Rattle.permission_map.specs.Overwrite.{last_end, last_perm, IsBelow, IsAbove}
use Rattle.permission_map.proofs.Rising.{view_above, view_past, view_in, view_before, view_second, view_alike, runs_first, runs_second, runs_append, runs_apart}
use Rattle.permission_map.proofs.Rising.{last_end-append, last_perm-append}

-- runs with a list after that says nothing of a page
pub view_only : (xs ys : List Run) (page : ℕ) → view_of_runs ys page ≡ NoAccess → view_of_runs xs page ≡ view_of_runs (xs ++ ys) page
view_only xs ys page none = ap (λ rs. view_of_runs rs page) (sym (append-nil xs)) ∙ view_alike xs [] ys page (sym none)

-- runs that end before a page are none, or their last end is before it
low_end : (at page : ℕ) (xs : List Run) → AllByRecursion (λ run. end_of run < page) xs → (xs ≡ []) ⊎ (last_end at xs < page)
low_end at page [] low = inl refl
low_end at page (x ∷ xs) low = inr (go (end_of x) xs low.0 low.1)
  where
    go : (at : ℕ) (xs : List Run) → at < page → AllByRecursion (λ run. end_of run < page) xs → last_end at xs < page
    go at [] here low = here
    go at (x ∷ xs) here low = go (end_of x) xs low.0 low.1

-- ---- below the range

-- no run goes over its first page
pub below_none :
    (runs before rest : List Run) (first : ℕ) (perm : Perm) → AreRuns runs → runs ≡ before ++ rest → AllByRecursion (λ run. end_of run < first) before
    → AllByRecursion (λ run. first ≤ run.first) rest → IsBelow runs first perm before first
below_none runs before rest first perm are parts low high =
    let both : AreRuns (before ++ rest) = rw parts at are in
    let front : AreRuns before = runs_first 0 NoAccess before rest both in
    let tail : AreRunsAfter (last_end 0 before) (last_perm NoAccess before) rest = runs_second 0 NoAccess before rest both in
    record {
      are_runs = front;
      rising = ⊎_elim (λ none. let zero : last_end 0 before ≡ 0 = ap (last_end 0) none in omega arith) (λ less. omega arith) (low_end 0 first before low);
      maximal =
          λ some touch.
          ⊎_elim (λ none. λ same. some (same ∙ ap (last_perm NoAccess) none)) (λ less. absurd (omega arith)) (low_end 0 first before low);
      reaches = omega arith;
      same_below = λ page under. view_only before rest page (nothing rest page under high) ∙ ap (λ rs. view_of_runs rs page) (sym parts);
      taken_in = λ page over under. absurd (omega arith);
    }
  where
    nothing : (rs : List Run) (page : ℕ) → page < first → AllByRecursion (λ run. first ≤ run.first) rs → view_of_runs rs page ≡ NoAccess
    nothing [] page under high = refl
    nothing (r ∷ rs) page under high =
        let begin : first ≤ r.first = high.0 in
        view_above r rs page (omega arith) ∙ nothing rs page under high.1

-- a run of another permission goes over it: what is below stays
pub below_cut :
    (runs before rest : List Run) (run : Run) (first : ℕ) (perm : Perm) → AreRuns runs → runs ≡ before ++ run ∷ rest → run.first < first → first ≤ end_of run
    → run.perm ≢ perm
    → IsBelow runs first perm (before ++ record { first = run.first; count = first - run.first; perm = run.perm } ∷ []) first
below_cut runs before rest run first perm are parts begin end other =
    let kept : Run = record { first = run.first; count = first - run.first; perm = run.perm } in
    let both : AreRuns (before ++ run ∷ rest) = rw parts at are in
    let front : AreRuns before = runs_first 0 NoAccess before (run ∷ rest) both in
    let tail : AreRunsAfter (last_end 0 before) (last_perm NoAccess before) (run ∷ rest) = runs_second 0 NoAccess before (run ∷ rest) both in
    let inside : end_of run ≤ 2 ^ 44 = tail.0.inside in
    let stop : run.first + (first - run.first) ≡ first = omega arith in
    let last : last_end 0 (before ++ record { first = run.first; count = first - run.first; perm = run.perm } ∷ []) ≡ first = last_end-append 0 before
    (kept ∷ []) ∙ stop in
    record {
      are_runs =
          runs_append 0 NoAccess before (kept ∷ []) front
          (record { rising = tail.0.rising; maximal = tail.0.maximal; some = omega arith; allows = tail.0.allows; inside = omega arith }, tt);
      rising = omega arith;
      maximal = λ some touch. λ same. other (sym (same ∙ last_perm-append NoAccess before (kept ∷ [])));
      reaches = omega arith;
      same_below =
          λ page under.
          view_alike before (kept ∷ []) (run ∷ rest) page
          (⊎_elim
          (λ less. view_above kept [] page less ∙ sym (view_before (end_of run) run.perm rest page tail.1 (omega arith)) ∙ sym (view_above run rest page less))
          (λ more. view_in kept [] page more (omega arith) ∙ sym (view_in run rest page more (omega arith)))
          (cases_lt page run.first))
          ∙ ap (λ rs. view_of_runs rs page) (sym parts);
      taken_in = λ page over under. absurd (omega arith);
    }

-- a run of the permission goes over it: the new run begins with that one
pub below_joined :
    (runs before rest : List Run) (run : Run) (first : ℕ) (perm : Perm) → AreRuns runs → runs ≡ before ++ run ∷ rest → run.first < first → first ≤ end_of run
    → run.perm ≡ perm
    → IsBelow runs first perm before run.first
below_joined runs before rest run first perm are parts begin end same_perm =
    let both : AreRuns (before ++ run ∷ rest) = rw parts at are in
    let front : AreRuns before = runs_first 0 NoAccess before (run ∷ rest) both in
    let tail : AreRunsAfter (last_end 0 before) (last_perm NoAccess before) (run ∷ rest) = runs_second 0 NoAccess before (run ∷ rest) both in
    let behind : last_end 0 before ≤ run.first = tail.0.rising in
    record {
      are_runs = front;
      rising = behind;
      maximal = λ some touch. λ same. tail.0.maximal touch (same_perm ∙ same);
      reaches = omega arith;
      same_below =
          λ page under.
          view_only before (run ∷ rest) page (view_above run rest page under ∙ view_before (end_of run) run.perm rest page tail.1 (omega arith))
          ∙ ap (λ rs. view_of_runs rs page) (sym parts);
      taken_in =
          λ page over under.
          ap (λ rs. view_of_runs rs page) parts ∙ view_second 0 NoAccess before (run ∷ rest) page front (omega arith) ∙ view_in run rest page over (omega arith)
          ∙ same_perm;
    }

-- ---- after the range

-- no run goes over its end
pub above_none :
    (runs before rest : List Run) (end : ℕ) (perm : Perm) → AreRuns runs → runs ≡ before ++ rest → end ≤ 2 ^ 44 → last_end 0 before ≤ end
    → AllByRecursion (λ run. end < run.first) rest → IsAbove runs end perm rest end
above_none runs before rest end perm are parts small low high =
    let both : AreRuns (before ++ rest) = rw parts at are in
    let front : AreRuns before = runs_first 0 NoAccess before rest both in
    let tail : AreRunsAfter (last_end 0 before) (last_perm NoAccess before) rest = runs_second 0 NoAccess before rest both in
    record {
      are_runs = runs_apart (last_end 0 before) end (last_perm NoAccess before) perm rest tail high;
      reaches = omega arith;
      inside = small;
      same_above = λ page over. sym (ap (λ rs. view_of_runs rs page) parts ∙ view_second 0 NoAccess before rest page front (omega arith));
      taken_in = λ page over under. absurd (omega arith);
    }

-- a run of another permission goes over it: what is after stays
pub above_cut :
    (runs before rest : List Run) (run : Run) (end : ℕ) (perm : Perm) → AreRuns runs → runs ≡ before ++ run ∷ rest → run.first ≤ end → end < end_of run
    → run.perm ≢ perm
    → IsAbove runs end perm (record { first = end; count = end_of run - end; perm = run.perm } ∷ rest) end
above_cut runs before rest run end perm are parts begin stop other =
    let kept : Run = record { first = end; count = end_of run - end; perm = run.perm } in
    let both : AreRuns (before ++ run ∷ rest) = rw parts at are in
    let front : AreRuns before = runs_first 0 NoAccess before (run ∷ rest) both in
    let tail : AreRunsAfter (last_end 0 before) (last_perm NoAccess before) (run ∷ rest) = runs_second 0 NoAccess before (run ∷ rest) both in
    let behind : last_end 0 before ≤ run.first = tail.0.rising in
    let inside : end_of run ≤ 2 ^ 44 = tail.0.inside in
    let ends : end + (end_of run - end) ≡ end_of run = omega arith in
    record {
      are_runs =
          (record { rising = omega arith; maximal = λ touch. other; some = omega arith; allows = tail.0.allows; inside = omega arith }, rw ends tail.1);
      reaches = omega arith;
      inside = omega arith;
      same_above =
          λ page over.
          ⊎_elim
          (λ less. view_in kept rest page over (omega arith) ∙ sym (view_in run rest page (omega arith) less))
          (λ more. view_past kept rest page (omega arith) ∙ sym (view_past run rest page more))
          (cases_lt page (end_of run))
          ∙ sym (ap (λ rs. view_of_runs rs page) parts ∙ view_second 0 NoAccess before (run ∷ rest) page front (omega arith));
      taken_in = λ page over under. absurd (omega arith);
    }

-- a run of the permission goes over it: the new run ends with that one
pub above_joined :
    (runs before rest : List Run) (run : Run) (end : ℕ) (perm : Perm) → AreRuns runs → runs ≡ before ++ run ∷ rest → run.first ≤ end → end < end_of run
    → run.perm ≡ perm
    → IsAbove runs end perm rest (end_of run)
above_joined runs before rest run end perm are parts begin stop same_perm =
    let both : AreRuns (before ++ run ∷ rest) = rw parts at are in
    let front : AreRuns before = runs_first 0 NoAccess before (run ∷ rest) both in
    let tail : AreRunsAfter (last_end 0 before) (last_perm NoAccess before) (run ∷ rest) = runs_second 0 NoAccess before (run ∷ rest) both in
    let behind : last_end 0 before ≤ run.first = tail.0.rising in
    record {
      are_runs = rw (sym same_perm) tail.1;
      reaches = omega arith;
      inside = tail.0.inside;
      same_above =
          λ page over. sym (ap (λ rs. view_of_runs rs page) parts ∙ view_second 0 NoAccess before (run ∷ rest) page front (omega arith)
          ∙ view_past run rest page over);
      taken_in =
          λ page over under.
          ap (λ rs. view_of_runs rs page) parts ∙ view_second 0 NoAccess before (run ∷ rest) page front (omega arith)
          ∙ view_in run rest page (omega arith) under ∙ same_perm;
    }
