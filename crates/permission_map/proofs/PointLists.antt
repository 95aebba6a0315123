-- Lists with an element put in, and counted in parts.
use Rattle.std.proofs.Common.{◌≡◌, ℕ, ◌+◌, ◌-◌, ◌≤◌, List, [], ◌∷◌, ◌++◌, length, take, drop, Bool, cond, count_by, sym, ap, ◌∙◌, arith, length-take}
use Rattle.std.proofs.Math.Seq.{take-append-add, drop-append-add}
use Rattle.std.proofs.lemmas.Grind.{common_steps}
use Rattle.std.proofs.lemmas.List.Sums.{sum_by-take-drop, sum_by-append}

pub inserted_front : {X : Type 0} (xs : List X) (at : ℕ) (x : X) → at ≤ length xs → take (at + 1) (take at xs ++ x ∷ drop at xs) ≡ take at xs ++ x ∷ []
inserted_front xs at x inside =
    let e : at + 1 ≡ length (take at xs) + 1 = omega (arith, length-take at xs) in
    ap (λ n. take n (take at xs ++ x ∷ drop at xs)) e ∙ take-append-add (take at xs) (x ∷ drop at xs) 1

pub inserted_back : {X : Type 0} (xs : List X) (at end : ℕ) (x : X) → at ≤ length xs → end ≡ at → drop (end + 1) (take at xs ++ x ∷ drop at xs) ≡ drop end xs
inserted_back xs at end x inside same =
    let e : end + 1 ≡ length (take at xs) + 1 = omega (arith, length-take at xs) in
    ap (λ n. drop n (take at xs ++ x ∷ drop at xs)) e ∙ drop-append-add (take at xs) (x ∷ drop at xs) 1 ∙ ap (λ n. drop n xs) (sym same)

pub drop_twice : {X : Type 0} (xs : List X) (from to : ℕ) → from ≤ to → drop (to - from) (drop from xs) ≡ drop to xs
drop_twice xs from to order = grind (arith, common_steps)

pub three_parts :
    {X : Type 0} (p : X → Bool) (xs : List X) (from to : ℕ) → from ≤ to
    → count_by p (take from xs) + (count_by p (take (to - from) (drop from xs)) + count_by p (drop to xs)) ≡ count_by p xs
three_parts p xs from to order =
    let one = sum_by-take-drop (λ x. cond (p x) 1 0) xs from in
    let two = sum_by-take-drop (λ x. cond (p x) 1 0) (drop from xs) (to - from) in
    let rest : count_by p (drop (to - from) (drop from xs)) ≡ count_by p (drop to xs) = ap (count_by p) (drop_twice xs from to order) in
    omega (arith, one, two, rest)

pub count_by-append : {X : Type 0} (p : X → Bool) (xs ys : List X) → count_by p (xs ++ ys) ≡ count_by p xs + count_by p ys
count_by-append p xs ys = sum_by-append (λ x. cond (p x) 1 0) xs ys
