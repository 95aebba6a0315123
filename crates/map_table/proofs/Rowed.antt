-- Rows one after another, and texts: the next of them, and those after it.
use Rattle.std.proofs.Common.{ℕ, List, [], ◌∷◌, ◌++◌, ◌≡◌, ◌+◌, ◌-◌, ◌<◌, ◌≤◌, suc, ap, arith, drop, length, map, slice_index_or}
use Rattle.std.proofs.lemmas.Grind.{common_steps}
use Rattle.std.specs.Borrow.{Bor}
use Rattle.std.specs.List.{concat}
use Rattle.map_table.specs.RegisterRows.{rows_text}

pub rows_text-first : (row : ℕ → List ℕ) (i count : ℕ) → i < count → rows_text row i (count - i) ≡ row i ++ rows_text row (i + 1) (count - (i + 1))
rows_text-first row i count h = let e : count - i ≡ suc (count - (i + 1)) = omega arith in ap (rows_text row i) e

next_one : {A : Type 0} (all : List A) (i : ℕ) (d : A) → i < length all → drop i all ≡ slice_index_or all i d ∷ drop (i + 1) all
next_one all i d h = grind (arith, common_steps)

-- texts one after another: the next of them, and those after it
pub texts-first :
    (all : List (Bor (List ℕ))) (i : ℕ) (d : Bor (List ℕ)) → i < length all
    → concat (map (λ s. s.now) (drop i all)) ≡ (slice_index_or all i d).now ++ concat (map (λ s. s.now) (drop (i + 1) all))
texts-first all i d h = ap (λ xs. concat (map (λ s. s.now) xs)) (next_one all i d h)

-- nothing stands after the last
pub texts-none : {A : Type 0} (all : List A) (i : ℕ) → length all ≤ i → drop i all ≡ []
texts-none all i h = grind (arith, common_steps)
