-- The entries that are overridden, from one that meets the stretch to the next.
use Rattle.std.proofs.Common.{◌≡◌, ◌∙◌, ◌==◌, ℕ, zero, suc, ◌+◌, ◌-◌, ◌≤◌, ◌<◌, List, [], ◌∷◌, ◌++◌, drop, get_or, length, true, false, ap, take, arith}
use Rattle.std.proofs.Common.{if◌then◌else◌}
use Rattle.std.proofs.lemmas.List.{drop_all, drop_more}
use Rattle.std.proofs.lemmas.Bool.Decides.{nat_tests}
use Rattle.std.proofs.lemmas.Grind.{common_steps}
use Rattle.pmp_encoding.specs.declared.extent.Extent.{Extent}
use Rattle.pmp_match.specs.Tor.{nowhere}
use Rattle.map_table.specs.Meetings.{IsNextMeeting, MissesAll}
use Rattle.map_table.specs.declared.stretch.Stretch.{Stretch}
use Rattle.map_table.specs.Rows.{meets, overridden_from}

one_met : (extents : List Extent) (i : ℕ) (s : Stretch) → i < length extents → meets (get_or extents i nowhere) s ≡ true
    → overridden_from i (drop i extents) s ≡ i ∷ overridden_from (i + 1) (drop (i + 1) extents) s
one_met extents i s inside met =
    ap (λ xs. overridden_from i xs s) (drop_more extents i nowhere inside)
    ∙ ap (λ t. if t then i ∷ overridden_from (i + 1) (drop (i + 1) extents) s else overridden_from (i + 1) (drop (i + 1) extents) s) met

one_missed : (extents : List Extent) (i : ℕ) (s : Stretch) → i < length extents → meets (get_or extents i nowhere) s ≡ false
    → overridden_from i (drop i extents) s ≡ overridden_from (i + 1) (drop (i + 1) extents) s
one_missed extents i s inside met =
    ap (λ xs. overridden_from i xs s) (drop_more extents i nowhere inside)
    ∙ ap (λ t. if t then i ∷ overridden_from (i + 1) (drop (i + 1) extents) s else overridden_from (i + 1) (drop (i + 1) extents) s) met

missed_by : (extents : List Extent) (i n : ℕ) (s : Stretch) → i + n ≤ length extents → MissesAll extents i (i + n) s.first s.end
    → overridden_from i (drop i extents) s ≡ overridden_from (i + n) (drop (i + n) extents) s
missed_by extents i zero s inside misses = ap (λ k. overridden_from k (drop k extents) s) (omega arith)
missed_by extents i (suc n) s inside misses =
    let next : i + 1 + n ≡ i + suc n = omega arith in
    one_missed extents i s (omega (arith, inside)) (misses i (omega arith) (omega arith))
    ∙ missed_by extents (i + 1) n s (omega (arith, inside)) (λ k low high. misses k (omega (arith, low)) (omega (arith, high)))
    ∙ ap (λ k. overridden_from k (drop k extents) s) next

missed_to : (extents : List Extent) (i j : ℕ) (s : Stretch) → i ≤ j → j ≤ length extents → MissesAll extents i j s.first s.end
    → overridden_from i (drop i extents) s ≡ overridden_from j (drop j extents) s
missed_to extents i j s low inside misses =
    let same : i + (j - i) ≡ j = omega (arith, low) in
    missed_by extents i (j - i) s (omega (arith, low, inside)) (λ k begun high. misses k begun (omega (arith, low, high)))
    ∙ ap (λ k. overridden_from k (drop k extents) s) same

-- the next that meets the stretch comes first
pub next_overridden :
    (extents : List Extent) (from j : ℕ) (s : Stretch) → IsNextMeeting extents from s.first s.end j
    → overridden_from from (drop from extents) s ≡ j ∷ overridden_from (j + 1) (drop (j + 1) extents) s
next_overridden extents from j s next = missed_to extents from j s next.later (omega (arith, next.inside)) next.before
    ∙ one_met extents j s next.inside next.met

-- where none is left
pub none_overridden : (extents : List Extent) (from : ℕ) (s : Stretch) → from ≤ length extents → MissesAll extents from (length extents) s.first s.end
    → overridden_from from (drop from extents) s ≡ []
none_overridden extents from s within misses =
    missed_to extents from (length extents) s within (omega arith) misses
    ∙ ap (λ xs. overridden_from (length extents) xs s) (drop_all (length extents) extents (omega arith))

-- ---- the first three

pub all_found : (found rest all : List ℕ) → found ++ rest ≡ all → rest ≡ [] → length found ≤ 3 → found ≡ take 3 all
all_found found rest all e none few = grind (arith, common_steps)

first_found : (found rest all : List ℕ) (n : ℕ) → found ++ rest ≡ all → length found ≡ n → found ≡ take n all
first_found found rest all n e full = grind (arith, common_steps)

pub three_found : (found rest all : List ℕ) → found ++ rest ≡ all → length found ≡ 3 → found ≡ take 3 all
three_found found rest all e full = first_found found rest all 3 e full

pub one_found : (found rest more all : List ℕ) (j : ℕ) → found ++ more ≡ all → more ≡ j ∷ rest → (found ++ j ∷ []) ++ rest ≡ all
one_found found rest more all j e next = grind (arith, common_steps)

pub still_few : (found more : List ℕ) (j : ℕ) → more ≡ found ++ j ∷ [] → false ≡ (length found == 3) → length found ≤ 3 → length more ≤ 3
still_few found more j is room few = grind (arith, nat_tests, common_steps)

pub is_three : (found : List ℕ) → true ≡ (length found == 3) → length found ≡ 3
is_three found full = grind (arith, nat_tests)
