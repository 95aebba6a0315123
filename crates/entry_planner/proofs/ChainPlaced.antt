-- What a walk down a chain of blocks adds.
use Rattle.std.proofs.Common.{◌≡◌, ℕ, ◌+◌, ◌-◌, ◌^◌, List, [], ◌++◌, sym, subst, arith, IsPermutation}
use Rattle.std.proofs.lemmas.Grind.{common_steps}
use Rattle.std.proofs.lemmas.List.{append-nil}
use Rattle.std.proofs.lemmas.List.Sorted.{IsPermutation-append_right, IsPermutation-append_comm, IsPermutation-refl, IsPermutation-trans}
use Rattle.pmp_encoding.specs.declared.perm.Perm.{Perm}
use Rattle.pmp_encoding.specs.declared.region.Entry.{Entry}
use Rattle.prefix_tree.specs.Trees.{PermTree, Uniform, Split}
use Rattle.entry_planner.specs.Choice.{AddsChosen, AddsOwn, IsChosenAt, handed_on}
use Rattle.entry_planner.proofs.Added.{both_added, exchanged}
use Rattle.entry_planner.proofs.Walked.{split_is}

-- with what a block still adds, the entries that were added are chosen for the largest block
abbrev pub Completes : (k first : ℕ) (p : Perm) (tree : PermTree) (j next : ℕ) (q : Perm) (rest : PermTree) (old new : List Entry) → Type 0
Completes k first p tree j next q rest old new =
    (added : List Entry) × IsPermutation (old ++ added) new
    × ((low : List Entry) → IsChosenAt j next q rest low → (es : List Entry) × IsChosenAt k first p tree es × IsPermutation es (added ++ low))

pub begun : (k first : ℕ) (p : Perm) (tree : PermTree) (old : List Entry) → Completes k first p tree k first p tree old old
begun k first p tree old =
    ([], subst (λ l. IsPermutation l old) (sym (append-nil old)) (IsPermutation-refl old), λ low chosen. (low, chosen, IsPermutation-refl low))

moved : (added own x : List Entry) → IsPermutation (added ++ (x ++ own)) (added ++ (own ++ x))
moved added own x = IsPermutation-append_right added (x ++ own) (own ++ x) (IsPermutation-append_comm x own)

moved_up : (added own leaf low : List Entry) → IsPermutation (added ++ (leaf ++ (low ++ own))) (((added ++ own) ++ leaf) ++ low)
moved_up added own leaf low =
    let x = leaf ++ low in
    let before : added ++ (x ++ own) ≡ added ++ (leaf ++ (low ++ own)) = grind (arith, common_steps) in
    let behind : added ++ (own ++ x) ≡ ((added ++ own) ++ leaf) ++ low = grind (arith, common_steps) in
    subst (λ l. IsPermutation l (((added ++ own) ++ leaf) ++ low)) before (subst (λ l. IsPermutation (added ++ (x ++ own)) l) behind (moved added own x))

moved_down : (added own leaf low : List Entry) → IsPermutation (added ++ (low ++ (leaf ++ own))) (((added ++ own) ++ leaf) ++ low)
moved_down added own leaf low =
    let turned : IsPermutation (low ++ (leaf ++ own)) (leaf ++ (low ++ own)) = exchanged low leaf own in
    IsPermutation-trans (added ++ (low ++ (leaf ++ own))) (added ++ (leaf ++ (low ++ own))) (((added ++ own) ++ leaf) ++ low)
    (IsPermutation-append_right added (low ++ (leaf ++ own)) (leaf ++ (low ++ own)) turned) (moved_up added own leaf low)

-- one block down, to the upper half
pub went_up :
    (top root : ℕ) (t : Perm) (whole : PermTree) (tree next : PermTree) (before : Perm) (k i j first lower upper : ℕ) (p q : Perm)
    (old a b c : List Entry) → tree ≡ Split (Uniform before) next → i + 1 ≡ k → j + 1 ≡ k → lower ≡ first → upper ≡ first + 2 ^ (k - 1)
    → q ≡ handed_on (Uniform before) next p → Completes top root t whole k first p tree old a → AddsOwn k first p q a b → AddsOwn i lower q before b c
    → Completes top root t whole j upper q next old c
went_up top root t whole tree next before k i j first lower upper p q old a b c split low_height height at_lower at_upper handed so own leaf =
    let added = so.0 in (
      (added ++ own.0) ++ leaf.0,
      both_added old b c (added ++ own.0) leaf.0 (both_added old a b added own.0 so.1 own.2) leaf.2,
      λ low chosen.
          let g = so.2 (leaf.0 ++ (low ++ own.0))
          (split_is tree (Uniform before) next k i j first lower upper p q leaf.0 low own.0 split low_height height at_lower at_upper handed leaf.1 chosen
          own.1) in
          (g.0, g.1, IsPermutation-trans _ _ _ g.2 (moved_up added own.0 leaf.0 low)),
    )

-- one block down, to the lower half
pub went_down :
    (top root : ℕ) (t : Perm) (whole : PermTree) (tree next : PermTree) (behind : Perm) (k i j first lower upper : ℕ) (p q : Perm)
    (old a b c : List Entry) → tree ≡ Split next (Uniform behind) → i + 1 ≡ k → j + 1 ≡ k → lower ≡ first → upper ≡ first + 2 ^ (k - 1)
    → q ≡ handed_on next (Uniform behind) p → Completes top root t whole k first p tree old a → AddsOwn k first p q a b → AddsOwn j upper q behind b c
    → Completes top root t whole i lower q next old c
went_down top root t whole tree next behind k i j first lower upper p q old a b c split low_height height at_lower at_upper handed so own leaf =
    let added = so.0 in (
      (added ++ own.0) ++ leaf.0,
      both_added old b c (added ++ own.0) leaf.0 (both_added old a b added own.0 so.1 own.2) leaf.2,
      λ low chosen.
          let g = so.2 (low ++ (leaf.0 ++ own.0))
          (split_is tree next (Uniform behind) k i j first lower upper p q low leaf.0 own.0 split low_height height at_lower at_upper handed chosen leaf.1
          own.1) in
          (g.0, g.1, IsPermutation-trans _ _ _ g.2 (moved_down added own.0 leaf.0 low)),
    )

-- the smallest block
pub completed :
    (top root : ℕ) (t : Perm) (whole rest smallest : PermTree) (k first : ℕ) (p : Perm) (old a b : List Entry) → rest ≡ smallest
    → Completes top root t whole k first p rest old a → AddsChosen k first p smallest a b → AddsChosen top root t whole old b
completed top root t whole rest smallest k first p old a b is so small =
    let added = so.0 in
    let es = small.0 in
    let g = so.2 es (subst (λ x. IsChosenAt k first p x es) (sym is) small.1) in
    let all : IsPermutation (old ++ (added ++ es)) b = both_added old a b added es so.1 small.2 in
    (g.0, g.1, IsPermutation-trans (old ++ g.0) (old ++ (added ++ es)) b (IsPermutation-append_right old g.0 (added ++ es) g.2) all)
