-- What a range leaves of the runs on either side of it, where they are cut by indices.
use Rattle.std.proofs.Common.{◌≡◌, ◌≢◌, ℕ, ◌+◌, ◌-◌, ◌^◌, ◌<◌, ◌≤◌, List, [], ◌∷◌, ◌++◌, length, take, drop, get_or, All, sym, ap, ◌∙◌, arith}
use Rattle.std.specs.List.{AllByRecursion}
use Rattle.std.proofs.lemmas.List.{take-append-drop, take_more, drop_more, drop_all, get_or-drop, get_or-take, length-take, length-drop}
use Rattle.std.proofs.lemmas.List.Elements.{recursion_from_All, All-get_or}
use Rattle.pmp_encoding.specs.declared.perm.Perm.{Perm}
use Rattle.pmp_encoding.specs.declared.perm.Perm.TheVariants.{NoAccess}
use Rattle.permission_map.specs.declared.runs.Run.{Run}
use Rattle.permission_map.specs.Runs.{end_of, AreRunsAfter, AreRuns}
use Rattle.permission_map.specs.Overwrite.{last_end, IsBelow, IsAbove}
use Rattle.permission_map.proofs.Rising.{runs_second, last_end-append}
use Rattle.permission_map.proofs.Seams.{below_none, below_cut, below_joined, above_none, above_cut, above_joined}

-- a list, cut at an index
around : (runs : List Run) (i : ℕ) (d : Run) → i < length runs → runs ≡ take i runs ++ get_or runs i d ∷ drop (i + 1) runs
around runs i d inside = sym (take-append-drop i runs) ∙ ap (λ rs. take i runs ++ rs) (drop_more runs i d inside)

-- what holds after an index holds at it
pub at_front : (P : Run → Type 0) (runs : List Run) (i : ℕ) (d : Run) → i < length runs → All P (drop i runs) → P (get_or runs i d)
at_front P runs i d inside all =
    let here : i + 0 ≡ i = omega arith in
    let read : get_or (drop i runs) 0 d ≡ get_or runs i d = get_or-drop i runs 0 d ∙ ap (λ k. get_or runs k d) here in
    rw read at (All-get_or P (drop i runs) 0 d (omega (arith, length-drop i runs)) all)

-- what holds before an index holds at the one below it
pub at_back : {X : Type 0} (P : X → Type 0) (runs : List X) (i : ℕ) (d : X) → 0 < i → i ≤ length runs → All P (take i runs) → P (get_or runs (i - 1) d)
at_back P runs i d some inside all =
    let low : i - 1 < i = omega arith in
    rw (get_or-take i runs (i - 1) d low) at (All-get_or P (take i runs) (i - 1) d (omega (arith, length-take i runs)) all)

pub all_later : (first at : ℕ) (p : Perm) (runs : List Run) → AreRunsAfter at p runs → first ≤ at → AllByRecursion (λ run. first ≤ run.first) runs
all_later first at p [] are low = tt
all_later first at p (run ∷ runs) are low =
    let begin : at ≤ run.first = are.0.rising in
    (omega arith, all_later first (end_of run) run.perm runs are.1 (omega arith))

-- ---- below the range

pub below_end :
    (runs : List Run) (kept first : ℕ) (perm : Perm) → AreRuns runs → All (λ run. end_of run < first) (take kept runs) → kept ≡ length runs
    → IsBelow runs first perm (take kept runs) first
below_end runs kept first perm are low all =
    let none : drop kept runs ≡ [] = drop_all kept runs (omega arith) in
    below_none runs (take kept runs) (drop kept runs) first perm are (sym (take-append-drop kept runs))
    (recursion_from_All (λ run. end_of run < first) (take kept runs) low)
    (rw none tt)

pub below_clear :
    (runs : List Run) (kept first : ℕ) (perm : Perm) (d : Run) → AreRuns runs → All (λ run. end_of run < first) (take kept runs) → kept < length runs
    → first ≤ (get_or runs kept d).first → IsBelow runs first perm (take kept runs) first
below_clear runs kept first perm d are low inside begin =
    let run = get_or runs kept d in
    let parts : runs ≡ take kept runs ++ get_or runs kept d ∷ drop (kept + 1) runs = around runs kept d inside in
    let both : AreRuns (take kept runs ++ get_or runs kept d ∷ drop (kept + 1) runs) = rw parts at are in
    let tail = runs_second 0 NoAccess (take kept runs) (run ∷ drop (kept + 1) runs) both in
    below_none runs (take kept runs) (run ∷ drop (kept + 1) runs) first perm are parts
    (recursion_from_All (λ run. end_of run < first) (take kept runs) low)
    (begin, all_later first (end_of run) run.perm (drop (kept + 1) runs) tail.1 (omega arith))

pub below_cut_at :
    (runs : List Run) (kept first : ℕ) (perm : Perm) (d : Run) → AreRuns runs → All (λ run. first ≤ end_of run) (drop kept runs) → kept < length runs
    → (get_or runs kept d).first < first → (get_or runs kept d).perm ≢ perm
    → IsBelow runs first perm (take kept runs ++ record {
      first = (get_or runs kept d).first;
      count = first - (get_or runs kept d).first;
      perm =
          (get_or runs kept d).perm;
    } ∷ []) first
below_cut_at runs kept first perm d are high inside begin other =
    below_cut runs (take kept runs) (drop (kept + 1) runs) (get_or runs kept d) first perm are (around runs kept d inside) begin
    (at_front (λ run. first ≤ end_of run) runs kept d inside high)
    other

pub below_joined_at :
    (runs : List Run) (kept first : ℕ) (perm : Perm) (d : Run) → AreRuns runs → All (λ run. first ≤ end_of run) (drop kept runs) → kept < length runs
    → (get_or runs kept d).first < first → (get_or runs kept d).perm ≡ perm → IsBelow runs first perm (take kept runs) (get_or runs kept d).first
below_joined_at runs kept first perm d are high inside begin same =
    below_joined runs (take kept runs) (drop (kept + 1) runs) (get_or runs kept d) first perm are (around runs kept d inside) begin
    (at_front (λ run. first ≤ end_of run) runs kept d inside high)
    same

-- ---- after the range

pub above_all : (runs : List Run) (gone end : ℕ) (perm : Perm) → AreRuns runs → end ≤ 2 ^ 44 → All (λ run. end < run.first) (drop gone runs) → gone ≡ 0
    → IsAbove runs end perm (drop gone runs) end
above_all runs gone end perm are small high none =
    let same : drop gone runs ≡ runs = ap (λ n. drop n runs) none in
    above_none runs [] (drop gone runs) end perm are (sym same) small (omega arith) (recursion_from_All (λ run. end < run.first) (drop gone runs) high)

before_it : (runs : List Run) (gone : ℕ) (d : Run) → 0 < gone → gone ≤ length runs → runs ≡ take (gone - 1) runs ++ get_or runs (gone - 1) d ∷ drop gone runs
before_it runs gone d some inside =
    let next : gone - 1 + 1 ≡ gone = omega arith in
    around runs (gone - 1) d (omega arith) ∙ ap (λ n. take (gone - 1) runs ++ get_or runs (gone - 1) d ∷ drop n runs) next

pub above_clear :
    (runs : List Run) (gone end : ℕ) (perm : Perm) (d : Run) → AreRuns runs → end ≤ 2 ^ 44 → All (λ run. end < run.first) (drop gone runs) → 0 < gone
    → gone ≤ length runs
    → end_of (get_or runs (gone - 1) d) ≤ end → IsAbove runs end perm (drop gone runs) end
above_clear runs gone end perm d are small high some inside stop =
    let next : gone - 1 + 1 ≡ gone = omega arith in
    let grown : take (gone - 1 + 1) runs ≡ take (gone - 1) runs ++ get_or runs (gone - 1) d ∷ [] = take_more runs (gone - 1) d (omega arith) in
    let front : take gone runs ≡ take (gone - 1) runs ++ get_or runs (gone - 1) d ∷ [] = ap (λ n. take n runs) (sym next) ∙ grown in
    let last : last_end 0 (take gone runs) ≡ end_of (get_or runs (gone - 1) d) = ap (last_end 0) front
    ∙ last_end-append 0 (take (gone - 1) runs) (get_or runs (gone - 1) d ∷ []) in
    above_none runs (take gone runs) (drop gone runs) end perm are (sym (take-append-drop gone runs)) small (omega arith)
    (recursion_from_All (λ run. end < run.first) (drop gone runs) high)

pub above_cut_at :
    (runs : List Run) (gone end : ℕ) (perm : Perm) (d : Run) → AreRuns runs → All (λ run. run.first ≤ end) (take gone runs) → 0 < gone → gone ≤ length runs
    → end < end_of (get_or runs (gone - 1) d) → (get_or runs (gone - 1) d).perm ≢ perm
    → IsAbove runs end perm (record { first = end; count = end_of (get_or runs (gone - 1) d) - end; perm = (get_or runs (gone - 1) d).perm } ∷ drop gone runs)
    end
above_cut_at runs gone end perm d are low some inside stop other =
    above_cut runs (take (gone - 1) runs) (drop gone runs) (get_or runs (gone - 1) d) end perm are (before_it runs gone d some inside)
    (at_back (λ run. run.first ≤ end) runs gone d some inside low)
    stop
    other

pub above_joined_at :
    (runs : List Run) (gone end : ℕ) (perm : Perm) (d : Run) → AreRuns runs → All (λ run. run.first ≤ end) (take gone runs) → 0 < gone → gone ≤ length runs
    → end < end_of (get_or runs (gone - 1) d) → (get_or runs (gone - 1) d).perm ≡ perm
    → IsAbove runs end perm (drop gone runs) (end_of (get_or runs (gone - 1) d))
above_joined_at runs gone end perm d are low some inside stop same =
    above_joined runs (take (gone - 1) runs) (drop gone runs) (get_or runs (gone - 1) d) end perm are (before_it runs gone d some inside)
    (at_back (λ run. run.first ≤ end) runs gone d some inside low)
    stop
    same

-- each run ends within the space
pub ends_small : (runs : List Run) (i : ℕ) (d : Run) → AreRuns runs → i < length runs → end_of (get_or runs i d) ≤ 2 ^ 44
ends_small runs i d are inside =
    let parts : runs ≡ take i runs ++ get_or runs i d ∷ drop (i + 1) runs = around runs i d inside in
    let both : AreRuns (take i runs ++ get_or runs i d ∷ drop (i + 1) runs) = rw parts at are in
    let tail = runs_second 0 NoAccess (take i runs) (get_or runs i d ∷ drop (i + 1) runs) both in
    tail.0.inside
