-- A view with one range overwritten has at most two runs more.
use Rattle.std.proofs.Common.{◌≡◌, ℕ, suc, ◌+◌, ◌-◌, ◌^◌, ◌<◌, ◌≤◌, ◌⊎◌, inl, inr, ⊎_elim, min, List, [], ◌∷◌, ◌++◌, length, take, drop, get_or, All, Option}
use Rattle.std.proofs.Common.{None, Some, option_to_list, refl, sym, ap, ◌∙◌, arith, rules, length-append, length-take, length-drop}
use Rattle.std.specs.List.{AllByRecursion}
use Rattle.std.proofs.lemmas.Bool.{cases_lt, cases_Bool}
use Rattle.std.proofs.lemmas.List.{append-nil}
use Rattle.std.proofs.lemmas.List.Elements.{All-nil, All-cons, All-from_recursion}
use denote.Enum.Bare.{sameb, same_true, same_false}
use Rattle.pmp_encoding.specs.contracts.perm.Perm.{the_type}
use Rattle.pmp_encoding.specs.declared.perm.Perm.{Perm}
use Rattle.pmp_encoding.specs.declared.perm.Perm.TheVariants.{NoAccess}
use Rattle.permission_map.specs.declared.runs.Run.{Run}
use Rattle.permission_map.specs.Runs.{end_of, AreRunsAfter, AreRuns, view_of_runs}
use Rattle.permission_map.specs.Views.{overwritten, SameView}
use Rattle.permission_map.specs.Overwrite.{AreOverwritten, IsBelow, IsAbove, IsNew}
use Rattle.permission_map.proofs.Parted.{at_front, at_back, below_end, below_clear, below_cut_at, below_joined_at, above_all, above_clear, above_cut_at}
use Rattle.permission_map.proofs.Parted.{above_joined_at}
use Rattle.permission_map.proofs.Answered.{none_wanted, one_wanted, in_order, wanted_is}
use Rattle.permission_map.proofs.Overwritten.{changed_below, changed_past, changed_in}

-- ---- where a range cuts a list of runs

-- the first runs are those that have the one fact, and the others have the other
record IsCutAt (P Q : Run → Type 0) (runs : List Run) (i : ℕ) : Type 0 where
  inside : i ≤ length runs
  front : All P (take i runs)
  rest : All Q (drop i runs)

one_more : (P Q : Run → Type 0) (run : Run) (runs : List Run) (i : ℕ) → P run → IsCutAt P Q runs i → IsCutAt P Q (run ∷ runs) (suc i)
one_more P Q run runs i here cut =
    let most : i ≤ length runs = cut.inside in
    record { inside = omega arith; front = All-cons P run (take i runs) here cut.front; rest = cut.rest }

ends_later : (first at : ℕ) (p : Perm) (runs : List Run) → AreRunsAfter at p runs → first ≤ at → AllByRecursion (λ run. first ≤ end_of run) runs
ends_later first at p [] are low = tt
ends_later first at p (run ∷ runs) are low =
    let begin : at ≤ run.first = are.0.rising in
    (omega arith, ends_later first (end_of run) run.perm runs are.1 (omega arith))

firsts_behind : (end at : ℕ) (p : Perm) (runs : List Run) → AreRunsAfter at p runs → end < at → AllByRecursion (λ run. end < run.first) runs
firsts_behind end at p [] are low = tt
firsts_behind end at p (run ∷ runs) are low =
    let begin : at ≤ run.first = are.0.rising in
    (omega arith, firsts_behind end (end_of run) run.perm runs are.1 (omega arith))

clear_cut : (first at : ℕ) (p : Perm) (runs : List Run) → AreRunsAfter at p runs
    → (i : ℕ) × IsCutAt (λ run. end_of run < first) (λ run. first ≤ end_of run) runs i
clear_cut first at p [] are = (0, record { inside = omega arith; front = All-nil (λ run. end_of run < first); rest = All-nil (λ run. first ≤ end_of run) })
clear_cut first at p (run ∷ runs) are =
    ⊎_elim
    (λ less.
    let more = clear_cut first (end_of run) run.perm runs are.1 in
    (suc more.0, one_more (λ run. end_of run < first) (λ run. first ≤ end_of run) run runs more.0 less more.1))
    (λ high. (
      0,
      record {
        inside = omega arith;
        front = All-nil (λ run. end_of run < first);
        rest = All-from_recursion (λ run. first ≤ end_of run) (run ∷ runs) (high, ends_later first (end_of run) run.perm runs are.1 high);
      },
    ))
    (cases_lt (end_of run) first)

begun_cut : (end at : ℕ) (p : Perm) (runs : List Run) → AreRunsAfter at p runs → (i : ℕ) × IsCutAt (λ run. run.first ≤ end) (λ run. end < run.first) runs i
begun_cut end at p [] are = (0, record { inside = omega arith; front = All-nil (λ run. run.first ≤ end); rest = All-nil (λ run. end < run.first) })
begun_cut end at p (run ∷ runs) are =
    ⊎_elim
    (λ less.
    let some : 0 < run.count = are.0.some in (
      0,
      record {
        inside = omega arith;
        front = All-nil (λ run. run.first ≤ end);
        rest = All-from_recursion (λ run. end < run.first) (run ∷ runs) (less, firsts_behind end (end_of run) run.perm runs are.1 (omega arith));
      },
    ))
    (λ high.
    let more = begun_cut end (end_of run) run.perm runs are.1 in
    (suc more.0, one_more (λ run. run.first ≤ end) (λ run. end < run.first) run runs more.0 high more.1))
    (cases_lt end run.first)

-- ---- what is left on either side: no run, or one where a run goes over the range's first page or its end

no_run : Run
no_run = record { first = 0; count = 0; perm = NoAccess }

record Below (runs : List Run) (first : ℕ) (perm : Perm) (i : ℕ) : Type 0 where
  rest : Option Run
  start : ℕ
  is : IsBelow runs first perm (take i runs ++ option_to_list rest) start
  few : (length (option_to_list rest) ≡ 0) ⊎ ((length (option_to_list rest) ≡ 1) × (i < length runs) × ((get_or runs i no_run).first < first))

record Above (runs : List Run) (end : ℕ) (perm : Perm) (j : ℕ) : Type 0 where
  rest : Option Run
  stop : ℕ
  is : IsAbove runs end perm (option_to_list rest ++ drop j runs) stop
  few : (length (option_to_list rest) ≡ 0) ⊎ ((length (option_to_list rest) ≡ 1) × (0 < j) × (end < end_of (get_or runs (j - 1) no_run)))

below_at : (runs : List Run) (first : ℕ) (perm : Perm) (i : ℕ) → AreRuns runs → IsCutAt (λ run. end_of run < first) (λ run. first ≤ end_of run) runs i
    → Below runs first perm i
below_at runs first perm i are cut =
    let most : i ≤ length runs = cut.inside in
    ⊎_elim
    (λ inside.
    ⊎_elim
    (λ low.
    ⊎_elim
    (λ same.
    record {
      rest = None;
      start = (get_or runs i no_run).first;
      is = rw append-nil (below_joined_at runs i first perm no_run are cut.rest inside low (same_true the_type (search rules) _ _ same));
      few = inl refl;
    })
    (λ other.
    record {
      rest = Some (record { first = (get_or runs i no_run).first; count = first - (get_or runs i no_run).first; perm = (get_or runs i no_run).perm });
      start = first;
      is = below_cut_at runs i first perm no_run are cut.rest inside low (same_false the_type _ _ other);
      few = inr (refl, inside, low);
    })
    (cases_Bool (sameb the_type (get_or runs i no_run).perm perm)))
    (λ high. record { rest = None; start = first; is = rw append-nil (below_clear runs i first perm no_run are cut.front inside high); few = inl refl })
    (cases_lt (get_or runs i no_run).first first))
    (λ end. record { rest = None; start = first; is = rw append-nil (below_end runs i first perm are cut.front (omega arith)); few = inl refl })
    (cases_lt i (length runs))

above_at : (runs : List Run) (end : ℕ) (perm : Perm) (j : ℕ) → AreRuns runs → end ≤ 2 ^ 44 → IsCutAt (λ run. run.first ≤ end) (λ run. end < run.first) runs j
    → Above runs end perm j
above_at runs end perm j are small cut =
    let most : j ≤ length runs = cut.inside in
    ⊎_elim
    (λ some.
    ⊎_elim
    (λ over.
    ⊎_elim
    (λ same.
    record {
      rest = None;
      stop = end_of (get_or runs (j - 1) no_run);
      is = above_joined_at runs j end perm no_run are cut.front some most over (same_true the_type (search rules) _ _ same);
      few = inl refl;
    })
    (λ other.
    record {
      rest = Some (record { first = end; count = end_of (get_or runs (j - 1) no_run) - end; perm = (get_or runs (j - 1) no_run).perm });
      stop = end;
      is = above_cut_at runs j end perm no_run are cut.front some most over (same_false the_type _ _ other);
      few = inr (refl, some, over);
    })
    (cases_Bool (sameb the_type (get_or runs (j - 1) no_run).perm perm)))
    (λ clear. record { rest = None; stop = end; is = above_clear runs j end perm no_run are small cut.rest some most clear; few = inl refl })
    (cases_lt end (end_of (get_or runs (j - 1) no_run))))
    (λ none. record { rest = None; stop = end; is = above_all runs j end perm are small cut.rest (omega arith); few = inl refl })
    (cases_lt 0 j)

new_at : (start stop : ℕ) (perm : Perm) → start ≤ stop → (new : Option Run) × IsNew start stop perm new × (length (option_to_list new) ≤ 1)
new_at start stop perm order =
    let ends : start + (stop - start) ≡ stop = omega arith in
    ⊎_elim (λ same. (None, same_true the_type (search rules) _ _ same, omega arith))
    (λ other. (Some (record { first = start; count = stop - start; perm = perm }), (same_false the_type _ _ other, refl, ends, refl), omega arith))
    (cases_Bool (sameb the_type perm NoAccess))

-- ---- the runs that are wanted, and their number

pub few_wanted :
    (runs : List Run) (first count : ℕ) (perm : Perm) → AreRuns runs → 0 < count → first + count ≤ 2 ^ 44
    → (after : List Run) × AreOverwritten runs first count perm after × (length after ≤ length runs + 2)
few_wanted runs first count perm are some small =
    let low = clear_cut first 0 NoAccess runs are in
    let high = begun_cut (first + count) 0 NoAccess runs are in
    let from = low.0 in
    let to = high.0 in
    let below = below_at runs first perm low.0 are low.1 in
    let above = above_at runs (first + count) perm high.0 are small high.1 in
    let starts : below.start ≤ first = below.is.reaches in
    let stops : first + count ≤ above.stop = above.is.reaches in
    let new = new_at below.start above.stop perm (omega arith) in
    let order : low.0 ≤ high.0 = in_order runs from to first (first + count) no_run low.1.inside low.1.front high.1.rest (omega arith) in
    let inside : high.0 ≤ length runs = high.1.inside in
    let lone : length (option_to_list new.0) ≤ 1 = new.2 in
    let counted : length (take low.0 runs ++ (option_to_list below.rest ++
    (option_to_list new.0 ++ (option_to_list above.rest ++ drop high.0 runs)))) ≤ length runs + 2 =
    simp (length-append, length-take, length-drop)
    (⊎_elim
    (λ apart. ⊎_elim (λ b. ⊎_elim (λ a. omega arith) (λ a. omega arith) above.few) (λ b. ⊎_elim (λ a. omega arith) (λ a. omega arith) above.few) below.few)
    (λ meet.
    ⊎_elim
    (λ b.
    ⊎_elim (λ a. omega arith)
    (λ a.
    absurd
    (let same : low.0 ≡ high.0 = omega arith in
    let begin : end_of (get_or runs (low.0 - 1) no_run) < first = at_back (λ run. end_of run < first) runs low.0 no_run
    (omega (arith, a)) low.1.inside low.1.front in
    let over : first + count < end_of (get_or runs (low.0 - 1) no_run) = rw (sym same) at a.2 in
    omega arith))
    above.few)
    (λ b.
    absurd
    (let same : low.0 ≡ high.0 = omega arith in
    let behind : first + count < (get_or runs high.0 no_run).first = at_front (λ run. first + count < run.first) runs high.0 no_run
    (omega (arith, b)) high.1.rest in
    let under : (get_or runs high.0 no_run).first < first = rw same at b.2 in
    omega arith))
    below.few)
    (cases_lt low.0 high.0)) in (
      _,
      wanted_is runs first count from to perm below.start above.stop below.rest new.0 above.rest some below.is above.is new.1,
      counted,
    )

-- the part of a range within the space
clipped :
    (view : ℕ → Perm) (first count : ℕ) (perm : Perm) → SameView (overwritten view first count perm)
    (overwritten view (min first (2 ^ 44)) (min count (2 ^ 44 - first)) perm)
clipped view first count perm page small =
    ⊎_elim
    (λ less.
    changed_below view first count perm page less
    ∙ sym (changed_below view (min first (2 ^ 44)) (min count (2 ^ 44 - first)) perm page (omega arith)))
    (λ more.
    ⊎_elim
    (λ inside.
    changed_in view first count perm page more inside
    ∙ sym (changed_in view (min first (2 ^ 44)) (min count (2 ^ 44 - first)) perm page (omega arith) (omega arith)))
    (λ past.
    changed_past view first count perm page past
    ∙ sym (changed_past view (min first (2 ^ 44)) (min count (2 ^ 44 - first)) perm page (omega arith)))
    (cases_lt page (first + count)))
    (cases_lt page first)

pub two_more :
    (runs after : List Run) (first count : ℕ) (perm : Perm) → AreRuns runs → AreRuns after
    → SameView (view_of_runs after) (overwritten (view_of_runs runs) first count perm)
    → length after ≤ length runs + 2
two_more runs after first count perm are afters same =
    let begin = min first (2 ^ 44) in
    let some = min count (2 ^ 44 - first) in
    let is : AreOverwritten runs (min first (2 ^ 44)) (min count (2 ^ 44 - first)) perm after =
    record { are_runs = afters; view_is = λ page small. same page small ∙ clipped (view_of_runs runs) first count perm page small } in
    ⊎_elim
    (λ any.
    let wanted = few_wanted runs begin some perm are any (omega arith) in
    let one : after ≡ wanted.0 = one_wanted runs begin some perm after wanted.0 is wanted.1 in
    omega (arith, ap length one, wanted.2))
    (λ none.
    let one : after ≡ runs = one_wanted runs begin some perm after runs is (none_wanted runs begin some perm are (omega arith)) in
    omega (arith, ap length one))
    (cases_lt 0 (min count (2 ^ 44 - first)))
