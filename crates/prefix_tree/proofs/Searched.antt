-- Runs by rising page, searched by halves: the place that is found is how many runs pass the test.
use Rattle.std.proofs.Common.{◌≡◌, ℕ, zero, suc, ◌≤◌, List, [], ◌∷◌, length, Bool, true, false, cond, count_by, ◌∙◌, arith}
use Rattle.std.specs.List.Sorted.{IsPartitionPoint}
use Rattle.std.proofs.lemmas.List.Sums.{sum_by-cons}

-- where those that pass a test come first, there are as many of them as the place of the first that fails it
pub point_counts :
    {X : Type 0} (p : X → Bool) (xs : List X) (i : ℕ) → i ≤ length xs → IsPartitionPoint (λ y. p y ≡ true) (λ y. p y ≡ false) xs i → count_by p xs ≡ i
point_counts p [] i most point = omega arith
point_counts p (x ∷ xs) zero most point =
    let here : p x ≡ false = point.1 0 x (omega arith) (omega arith) in
    let rest : count_by p xs ≡ 0 = point_counts p xs zero (omega arith) (
      λ k d low high. absurd (omega arith),
      λ k d low high. point.1 (suc k) d (omega arith)
          (omega arith),
    ) in
    sum_by-cons (λ y. cond (p y) 1 0) x xs ∙ rw here (omega (arith, rest))
point_counts p (x ∷ xs) (suc i) most point =
    let here : p x ≡ true = point.0 0 x (omega arith) (omega arith) in
    let rest : count_by p xs ≡ i =
    point_counts p xs i (omega arith) (
      λ k d low high. point.0 (suc k) d (omega arith) (omega arith),
      λ k d low high. point.1 (suc k) d (omega arith)
          (omega arith),
    ) in
    sum_by-cons (λ y. cond (p y) 1 0) x xs ∙ rw here (omega (arith, rest))
