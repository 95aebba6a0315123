-- What a range that was set, or refused, says of the runs that were wanted.
use Rattle.std.proofs.Common.{◌≡◌, ℕ, ◌+◌, ◌-◌, ◌^◌, ◌<◌, ◌≤◌, ◌↔◌, ⊎_elim, List, ◌++◌, length, take, drop, get_or, All, Result, Ok, Err, Option}
use Rattle.std.proofs.Common.{option_to_list, refl, sym, ap, subst, ◌∙◌, arith}
use Rattle.std.proofs.lemmas.Bool.{cases_lt, cond-false}
use Rattle.std.proofs.lemmas.List.{append_assoc, get_or-drop, length-drop}
use Rattle.std.proofs.lemmas.List.Elements.{All-get_or}
use Rattle.pmp_encoding.specs.declared.perm.Perm.{Perm}
use Rattle.permission_map.specs.declared.runs.Run.{Run}
use Rattle.permission_map.specs.declared.fault.MapFault.{MapFault}
use Rattle.permission_map.specs.declared.fault.MapFault.TheVariants.{PastEnd, TooManyRanges, Memory}
use Rattle.permission_map.specs.Runs.{end_of, AreRuns, in_range, view_of_runs}
use Rattle.permission_map.specs.Overwrite.{AreOverwritten, SetsRange, IsBelow, IsAbove, IsNew, Becomes}
use Rattle.permission_map.proofs.Rising.{range_above, range_past}
use Rattle.permission_map.proofs.Determined.{determined}
use Rattle.permission_map.proofs.Parted.{at_back}
use Rattle.permission_map.proofs.Overwritten.{put_together}

-- the runs that are wanted are one list
pub one_wanted :
    (old : List Run) (first count : ℕ) (perm : Perm) (xs ys : List Run) → AreOverwritten old first count perm xs → AreOverwritten old first count perm ys
    → xs ≡ ys
one_wanted old first count perm xs ys h k = determined xs ys h.are_runs k.are_runs (λ page small. h.view_is page small ∙ sym (k.view_is page small))

-- no pages change nothing
pub none_wanted : (old : List Run) (first count : ℕ) (perm : Perm) → AreRuns old → count ≡ 0 → AreOverwritten old first count perm old
none_wanted old first count perm are none =
    record {
      are_runs = are;
      view_is =
          λ page small.
          sym
          (cond-false (in_range first count page) perm (view_of_runs old page)
          (⊎_elim (λ less. range_above first count page less) (λ more. range_past first count page (omega arith)) (cases_lt page first)));
    }

pub stays :
    (old new wanted : List Run) (first count : ℕ) (perm : Perm) (result : Result (Unit {0}) MapFault) → AreRuns old → AreOverwritten old first count perm wanted
    → Becomes old new wanted result → count ≡ 0 → new ≡ old
stays old new wanted first count perm (Ok done) are is becomes none = becomes.0
    ∙ one_wanted old first count perm wanted old is (none_wanted old first count perm are none)
stays old new wanted first count perm (Err fault) are is becomes none = becomes.0

pub too_many :
    (old new wanted : List Run) (first count : ℕ) (perm : Perm) (result : Result (Unit {0}) MapFault) → first + count ≤ 2 ^ 44
    → AreOverwritten old first count perm wanted
    → Becomes old new wanted result
    → (result ≡ Err TooManyRanges) ↔ ((first + count ≤ 2 ^ 44) × ((runs : List Run) × AreOverwritten old first count perm runs × (4096 < length runs)))
too_many old new wanted first count perm (Ok done) inside is becomes = (
  (λ e. cc),
  (λ m. absurd (let same : m.1.0 ≡ wanted = one_wanted old first count perm m.1.0 wanted m.1.1 is in omega (arith, ap length same, m.1.2, becomes.1))),
)
too_many old new wanted first count perm (Err PastEnd) inside is becomes = absurd becomes.1
too_many old new wanted first count perm (Err TooManyRanges) inside is becomes = ((λ e. (inside, (wanted, is, becomes.1))), (λ m. refl))
too_many old new wanted first count perm (Err Memory) inside is becomes = (
  (λ e. cc),
  (λ m. absurd (let same : m.1.0 ≡ wanted = one_wanted old first count perm m.1.0 wanted m.1.1 is in omega (arith, ap length same, m.1.2, becomes.1))),
)

-- a range of the space is set, or it is refused for what is said
pub sets :
    (old new wanted : List Run) (first count : ℕ) (perm : Perm) (result : Result (Unit {0}) MapFault) → AreRuns old → first + count ≤ 2 ^ 44
    → AreOverwritten old first count perm wanted → Becomes old new wanted result → SetsRange old first count perm new result
sets old new wanted first count perm (Ok done) are inside is becomes =
    record {
      done = subst (AreOverwritten old first count perm) (sym becomes.0) is;
      kept = tt;
      nothing = stays old new wanted first count perm (Ok done) are is becomes;
      past_end = ((λ e. cc), (λ far. absurd (omega arith)));
      too_many = too_many old new wanted first count perm (Ok done) inside is becomes;
      memory = λ e. cc;
    }
sets old new wanted first count perm (Err PastEnd) are inside is becomes = absurd becomes.1
sets old new wanted first count perm (Err TooManyRanges) are inside is becomes =
    record {
      done = tt;
      kept = becomes.0;
      nothing = λ none. becomes.0;
      past_end = ((λ e. cc), (λ far. absurd (omega arith)));
      too_many = too_many old new wanted first count perm (Err TooManyRanges) inside is becomes;
      memory = λ e. cc;
    }
sets old new wanted first count perm (Err Memory) are inside is becomes =
    record {
      done = tt;
      kept = becomes.0;
      nothing = λ none. becomes.0;
      past_end = ((λ e. cc), (λ far. absurd (omega arith)));
      too_many = too_many old new wanted first count perm (Err Memory) inside is becomes;
      memory = λ e. (wanted, is, becomes.1.0, becomes.1.1);
    }

-- a range that ends past the space is refused
pub past_end_refused :
    (old : List Run) (first count : ℕ) (perm : Perm) → 2 ^ 44 < first + count → SetsRange old first count perm old (Err PastEnd)
past_end_refused old first count perm far =
    record {
      done = tt;
      kept = refl;
      nothing = λ none. refl;
      past_end = ((λ e. far), (λ is. refl));
      too_many = ((λ e. cc), (λ m. absurd (omega (arith, far, m.0))));
      memory = λ e. cc;
    }

-- the runs that end before a range are before those that begin after it
pub in_order :
    (runs : List Run) (from to first end : ℕ) (d : Run) → from ≤ length runs → All (λ run. end_of run < first) (take from runs)
    → All (λ run. end < run.first) (drop to runs)
    → first ≤ end → from ≤ to
in_order runs from to first end d inside low high order =
    ⊎_elim
    (λ crossed.
    let below : end_of (get_or runs (from - 1) d) < first = at_back (λ run. end_of run < first) runs from d (omega arith) inside low in
    let place : to + (from - 1 - to) ≡ from - 1 = omega arith in
    let above : end < (get_or runs (from - 1) d).first =
    rw place at (rw (get_or-drop to runs (from - 1 - to) d) at (All-get_or (λ run. end < run.first) (drop to runs) (from - 1 - to) d
    (omega (arith, length-drop to runs)) high)) in
    absurd (omega arith))
    (λ fine. fine)
    (cases_lt to from)

pub wanted_is :
    (old : List Run) (first count from to : ℕ) (perm : Perm) (start stop : ℕ) (below new above : Option Run) → 0 < count
    → IsBelow old first perm (take from old ++ option_to_list below) start → IsAbove old (first + count) perm (option_to_list above ++ drop to old) stop
    → IsNew start stop perm new
    → AreOverwritten old first count perm (take from old ++ (option_to_list below ++ (option_to_list new ++ (option_to_list above ++ drop to old))))
wanted_is old first count from to perm start stop below new above some low high is =
    rw append_assoc at
    (put_together old first count perm (take from old ++ option_to_list below) (option_to_list above ++ drop to old) start stop new some low high is)
