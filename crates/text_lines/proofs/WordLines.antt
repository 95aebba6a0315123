-- Six bytes, sixteen digits and a LF in two times sixteen lanes.
use Rattle.std.proofs.Common.{◌≡◌, ℕ, List, [], ◌∷◌, ◌++◌, length, take, drop, get_or, replicate, zero, suc, refl, ap, subst, arith}
use lib.Lanes.{pick_l}
use Rattle.text_lines.specs.Written.{hex}

-- the first elements of a list, one by one
abbrev listed : ℕ → List ℕ → List ℕ
listed zero xs = []
listed (suc n) xs = get_or xs 0 0 ∷ listed n (drop 1 xs)

-- which are all of them
listed_is : (n : ℕ) (xs : List ℕ) → length xs ≡ n → listed n xs ≡ xs
listed_is zero [] long = refl
listed_is zero (x ∷ xs) long = absurd (omega (arith, long))
listed_is (suc n) [] long = absurd (omega (arith, long))
listed_is (suc n) (x ∷ xs) long = ap (λ l. x ∷ l) (listed_is n xs (omega (arith, long)))

-- the first six of some bytes and ten digits
abbrev first_lanes : List ℕ → List ℕ → List ℕ
first_lanes before digits = pick_l 0 (before ++ digits) (0 ∷ 1 ∷ 2 ∷ 3 ∷ 4 ∷ 5 ∷ 16 ∷ 17 ∷ 18 ∷ 19 ∷ 20 ∷ 21 ∷ 22 ∷ 23 ∷ 24 ∷ 25 ∷ [])

-- six digits and LFs
abbrev second_lanes : List ℕ → List ℕ
second_lanes digits = pick_l 0 (digits ++ replicate 16 10) (10 ∷ 11 ∷ 12 ∷ 13 ∷ 14 ∷ 15 ∷ 16 ∷ 17 ∷ 18 ∷ 19 ∷ 20 ∷ 21 ∷ 22 ∷ 23 ∷ 24 ∷ 25 ∷ [])

pub lanes_are : (before : List ℕ) (v : ℕ) → length before ≡ 16 → take 16 (first_lanes before (hex 16 v)) ++ take 7
    (second_lanes (hex 16 v)) ≡ take 6 before ++ hex 16 v ++ 10 ∷ []
lanes_are before v long = subst (λ (xs : List ℕ). take 16 (first_lanes xs (hex 16 v)) ++ take 7 (second_lanes (hex 16 v)) ≡ take 6 xs ++ hex 16 v ++ 10 ∷ [])
    (listed_is 16 before long) refl
