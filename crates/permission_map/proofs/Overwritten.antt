-- The parts below and after a range, and the new run, put together.
use Rattle.std.proofs.Common.{◌≡◌, ◌≢◌, ℕ, ◌+◌, ◌^◌, ◌<◌, ◌≤◌, ⊎_elim, List, ◌∷◌, ◌++◌, Option, None, Some, option_to_list, sym, ◌∙◌, arith}
use Rattle.std.proofs.lemmas.Bool.{cases_lt, cond-true, cond-false}
use Rattle.pmp_encoding.specs.declared.perm.Perm.{Perm}
use Rattle.pmp_encoding.specs.declared.perm.Perm.TheVariants.{NoAccess}
use Rattle.permission_map.specs.declared.runs.Run.{Run}
use Rattle.permission_map.specs.Runs.{end_of, IsRunAfter, AreRunsAfter, in_range, view_of_runs}
use Rattle.permission_map.specs.Views.{overwritten}
use Rattle.permission_map.specs.Overwrite.{AreOverwritten, last_end, last_perm, IsBelow, IsAbove, IsNew}
use Rattle.permission_map.proofs.Rising.{range_above, range_past, range_has, view_above, view_past, view_in, view_before, view_second, runs_append}
use Rattle.permission_map.proofs.Rising.{runs_earlier}
use Rattle.permission_map.proofs.Seams.{view_only}

-- the view with the range overwritten, below, in and after it
pub changed_below : (view : ℕ → Perm) (first count : ℕ) (perm : Perm) (page : ℕ) → page < first → overwritten view first count perm page ≡ view page
changed_below view first count perm page h = cond-false (in_range first count page) perm (view page) (range_above first count page h)

pub changed_past : (view : ℕ → Perm) (first count : ℕ) (perm : Perm) (page : ℕ) → first + count ≤ page → overwritten view first count perm page ≡ view page
changed_past view first count perm page h = cond-false (in_range first count page) perm (view page) (range_past first count page h)

pub changed_in : (view : ℕ → Perm) (first count : ℕ) (perm : Perm) (page : ℕ) → first ≤ page → page < first + count
    → overwritten view first count perm page ≡ perm
changed_in view first count perm page h k = cond-true (in_range first count page) perm (view page) (range_has first count page h k)

-- wherever the new run takes in the old view, the overwritten view has its permission
covered :
    (old : List Run) (first count : ℕ) (perm : Perm) (below above : List Run) (start stop : ℕ) → IsBelow old first perm below start
    → IsAbove old (first + count) perm above stop
    → (page : ℕ) → start ≤ page → page < stop → overwritten (view_of_runs old) first count perm page ≡ perm
covered old first count perm below above start stop low high page over under =
    ⊎_elim (λ less. changed_below (view_of_runs old) first count perm page less ∙ low.taken_in page over less)
    (λ more.
    ⊎_elim (λ inside. changed_in (view_of_runs old) first count perm page more inside)
    (λ past. changed_past (view_of_runs old) first count perm page past ∙ high.taken_in page past under)
    (cases_lt page (first + count)))
    (cases_lt page first)

-- with a new run
with_run :
    (old : List Run) (first count : ℕ) (perm : Perm) (below above : List Run) (start stop : ℕ) (run : Run) → 0 < count → IsBelow old first perm below start
    → IsAbove old (first + count) perm above stop → perm ≢ NoAccess → run.first ≡ start → end_of run ≡ stop → run.perm ≡ perm
    → AreOverwritten old first count perm (below ++ run ∷ above)
with_run old first count perm below above start stop run some low high allows begin end same_perm =
    let starts : start ≤ first = low.reaches in
    let stops : first + count ≤ stop = high.reaches in
    let small : stop ≤ 2 ^ 44 = high.inside in
    let rising : last_end 0 below ≤ start = low.rising in
    let tail : AreRunsAfter (end_of run) run.perm above = rw (end, same_perm) high.are_runs in
    let new : IsRunAfter (last_end 0 below) (last_perm NoAccess below) run =
    record {
      rising = omega arith;
      maximal = λ touch. λ same. low.maximal allows (omega arith) (sym same_perm ∙ same);
      some = omega arith;
      allows = λ none. allows (sym same_perm ∙ none);
      inside = omega arith;
    } in
    record {
      are_runs = runs_append 0 NoAccess below (run ∷ above) low.are_runs (new, tail);
      view_is =
          λ page inside.
          ⊎_elim
          (λ less.
          sym (view_only below (run ∷ above) page (view_above run above page (omega arith) ∙ view_before (end_of run) run.perm above page tail (omega arith)))
          ∙ low.same_below page less
          ∙ sym (changed_below (view_of_runs old) first count perm page (omega arith)))
          (λ more.
          view_second 0 NoAccess below (run ∷ above) page low.are_runs (omega arith)
          ∙ ⊎_elim
          (λ under.
          view_in run above page (omega arith) (omega arith)
          ∙ same_perm
          ∙ sym (covered old first count perm below above start stop low high page more under))
          (λ past.
          view_past run above page (omega arith)
          ∙ high.same_above page past
          ∙ sym (changed_past (view_of_runs old) first count perm page (omega arith)))
          (cases_lt page stop))
          (cases_lt page start);
    }

-- with none
with_none :
    (old : List Run) (first count : ℕ) (perm : Perm) (below above : List Run) (start stop : ℕ) → 0 < count → IsBelow old first perm below start
    → IsAbove old (first + count) perm above stop → perm ≡ NoAccess → AreOverwritten old first count perm (below ++ above)
with_none old first count perm below above start stop some low high none =
    let starts : start ≤ first = low.reaches in
    let stops : first + count ≤ stop = high.reaches in
    let rising : last_end 0 below ≤ start = low.rising in
    let tail : AreRunsAfter (last_end 0 below) (last_perm NoAccess below) above = runs_earlier stop (last_end 0 below) perm
    (last_perm NoAccess below) above high.are_runs (omega arith) in
    record {
      are_runs = runs_append 0 NoAccess below above low.are_runs tail;
      view_is =
          λ page inside.
          ⊎_elim
          (λ less.
          sym (view_only below above page (view_before stop perm above page high.are_runs (omega arith)))
          ∙ low.same_below page less
          ∙ sym (changed_below (view_of_runs old) first count perm page (omega arith)))
          (λ more.
          view_second 0 NoAccess below above page low.are_runs (omega arith)
          ∙ ⊎_elim
          (λ under.
          view_before stop perm above page high.are_runs under
          ∙ sym none
          ∙ sym (covered old first count perm below above start stop low high page more under))
          (λ past. high.same_above page past ∙ sym (changed_past (view_of_runs old) first count perm page (omega arith)))
          (cases_lt page stop))
          (cases_lt page start);
    }

pub put_together :
    (old : List Run) (first count : ℕ) (perm : Perm) (below above : List Run) (start stop : ℕ) (new : Option Run) → 0 < count
    → IsBelow old first perm below start
    → IsAbove old (first + count) perm above stop → IsNew start stop perm new → AreOverwritten old first count perm (below ++ (option_to_list new ++ above))
put_together old first count perm below above start stop None some low high new = with_none old first count perm below above start stop some low high new
put_together old first count perm below above start stop (Some run) some low high new =
    with_run old first count perm below above start stop run some low high new.0 new.1 new.2 new.3
