-- A list in which two places are opened, and filled.
use Rattle.std.proofs.Common.{◌≡◌, ◌∙◌, ℕ, ◌+◌, ◌-◌, ◌≤◌, List, [], ◌∷◌, ◌++◌, length, take, drop, slice_set, refl, sym, ap, arith, append_assoc, length-append}
use Rattle.std.proofs.Common.{length-take-le}
use Rattle.std.specs.List.{copy_within}
use Rattle.std.proofs.Math.Seq.{set-append_seam, take-append-add, take-append_seam, drop-append_seam}
use Rattle.std.proofs.lemmas.List.{append-nil, drop_all, take-append-drop}

-- the first two of a list of two at least
pair : {X : Type 0} (r : List X) (a b : X) → (p : X) × (q : X) × (take 2 (r ++ a ∷ b ∷ []) ≡ p ∷ q ∷ [])
pair [] a b = (a, b, refl)
pair (p ∷ []) a b = (p, a, refl)
pair (p ∷ q ∷ r) a b = (p, q, refl)

apart : {X : Type 0} (l r : List X) (a b : X) → slice_set (slice_set (copy_within (l ++ (r ++ a ∷ b ∷ [])) (length l) (length l + length r) (length l + 2))
    (length l) a) (length l + 1) b ≡ l ++ a ∷ b ∷ r
apart l r a b =
    let ys = l ++ (r ++ a ∷ b ∷ []) in
    let two = pair r a b in
    let count : length l + length r - length l ≡ length r = omega arith in
    let front : take (length l + 2) (l ++ (r ++ a ∷ b ∷ [])) ≡ l ++ two.0 ∷ two.1 ∷ [] = take-append-add l (r ++ a ∷ b ∷ []) 2 ∙ ap (λ xs. l ++ xs) two.2 in
    let moved : take (length l + length r - length l) (drop (length l) (l ++ (r ++ a ∷ b ∷ []))) ≡ r = ap (λ n. take n (drop (length l) ys)) count
    ∙ ap (take (length r)) (drop-append_seam l (r ++ a ∷ b ∷ [])) ∙ take-append_seam r (a ∷ b ∷ []) in
    let whole : length (l ++ (r ++ a ∷ b ∷ [])) ≡ length l + length r + 2 = omega (arith, length-append l (r ++ a ∷ b ∷ []), length-append r (a ∷ b ∷ [])) in
    let rest : drop (length l + 2 + (length l + length r - length l)) (l ++ (r ++ a ∷ b ∷ [])) ≡ [] = drop_all
    (length l + 2 + (length l + length r - length l)) ys (omega (arith, whole, count)) in
    let next : length l + 1 ≡ length (l ++ a ∷ []) = omega (arith, length-append l (a ∷ [])) in
    let all : copy_within (l ++ (r ++ a ∷ b ∷ [])) (length l) (length l + length r) (length l + 2) ≡ l ++ two.0 ∷ two.1 ∷ r =
    ap (λ xs. (xs ++ take (length l + length r - length l) (drop (length l) ys)) ++ drop (length l + 2 + (length l + length r - length l)) ys) front
    ∙ ap (λ xs. ((l ++ two.0 ∷ two.1 ∷ []) ++ xs) ++ drop (length l + 2 + (length l + length r - length l)) ys) moved
    ∙ ap (λ xs. ((l ++ two.0 ∷ two.1 ∷ []) ++ r) ++ xs) rest
    ∙ append-nil ((l ++ two.0 ∷ two.1 ∷ []) ++ r)
    ∙ append_assoc l (two.0 ∷ two.1 ∷ []) r in
    ap (λ xs. slice_set (slice_set xs (length l) a) (length l + 1) b) all
    ∙ ap (λ xs. slice_set xs (length l + 1) b) (set-append_seam l two.0 (two.1 ∷ r) a)
    ∙ ap (λ n. slice_set (l ++ a ∷ two.1 ∷ r) n b) next
    ∙ ap (λ xs. slice_set xs (length (l ++ a ∷ [])) b) (sym (append_assoc l (a ∷ []) (two.1 ∷ r)))
    ∙ set-append_seam (l ++ a ∷ []) two.1 r b
    ∙ append_assoc l (a ∷ []) (b ∷ r)

pub opened :
    {X : Type 0} (xs pushed : List X) (at n : ℕ) (a b : X) → at ≤ length xs → n ≡ length xs → pushed ≡ (xs ++ a ∷ []) ++ b ∷ []
    → slice_set (slice_set (copy_within pushed at n (at + 2)) at a) (at + 1) b ≡ take at xs ++ a ∷ b ∷ drop at xs
opened xs pushed at n a b inside all is =
    let l = take at xs in
    let r = drop at xs in
    let parts : take at xs ++ drop at xs ≡ xs = take-append-drop at xs in
    let first : length (take at xs) ≡ at = length-take-le at xs inside in
    let both : n ≡ length (take at xs) + length (drop at xs) = all ∙ ap length (sym parts) ∙ length-append l r in
    let same : pushed ≡ take at xs ++ (drop at xs ++ a ∷ b ∷ []) =
    is ∙ append_assoc xs (a ∷ []) (b ∷ []) ∙ ap (λ ys. ys ++ a ∷ b ∷ []) (sym parts) ∙ append_assoc l r (a ∷ b ∷ []) in
    let whole = take at xs ++ (drop at xs ++ a ∷ b ∷ []) in
    ap (λ ys. slice_set (slice_set (copy_within ys at n (at + 2)) at a) (at + 1) b) same
    ∙ ap (λ m. slice_set (slice_set (copy_within whole at m (at + 2)) at a) (at + 1) b) both
    ∙ ap (λ k. slice_set (slice_set (copy_within whole k (length l + length r) (k + 2)) k a) (k + 1) b) (sym first)
    ∙ apart l r a b
