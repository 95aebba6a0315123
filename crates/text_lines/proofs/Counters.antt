-- From the digits of a number to those of the next one.
use Rattle.std.proofs.Common.{◌≡◌, ◌∙◌, ℕ, ◌+◌, ◌/◌, ◌%◌, ◌^◌, ◌<◌, ◌≤◌, ⊎_elim, List, [], ◌∷◌, ◌++◌, length, length-append, length-take-le, take, drop, get_or}
use Rattle.std.proofs.Common.{slice_set, zero, suc, ◌-◌, decimal, ap, ap₂, refl, sym, arith}
use Rattle.std.proofs.Math.Seq.{take-append_seam}
use Rattle.std.proofs.lemmas.Bool.{cases_lt}
use Rattle.std.proofs.lemmas.Fmt.{decimal_digit, decimal_step}

-- lists of which the last stands apart
snoc_same : (xs ys : List ℕ) (a b : ℕ) → xs ++ a ∷ [] ≡ ys ++ b ∷ [] → (xs ≡ ys) × (a ≡ b)
snoc_same [] [] a b p = (refl, ap (λ l. get_or l 0 0) p)
snoc_same [] (y ∷ ys) a b p = absurd (omega (arith, ap length p, length-append ys (b ∷ [])))
snoc_same (x ∷ xs) [] a b p = absurd (omega (arith, ap length p, length-append xs (a ∷ [])))
snoc_same (x ∷ xs) (y ∷ ys) a b p =
    let rest = snoc_same xs ys a b (ap (drop 1) p) in
    (ap₂ (λ h t. h ∷ t) (ap (λ l. get_or l 0 0) p) rest.0, rest.1)

-- the digits before the last one of a number
abbrev HasFront : ℕ → List ℕ → Type 0
HasFront n front = decimal n ≡ front ++ (48 + n % 10) ∷ []

pub short_front : (n : ℕ) → n < 10 → HasFront n []
short_front n small = let e : n % 10 ≡ n = omega arith in decimal_digit n small ∙ ap (λ d. (48 + d) ∷ []) (sym e)

pub long_front : (n : ℕ) → 10 ≤ n → n < 2 ^ 64 → HasFront n (decimal (n / 10))
long_front n large fits = decimal_step n large fits

some_front : (n : ℕ) → n < 2 ^ 64 → (front : List ℕ) × HasFront n front
some_front n fits = ⊎_elim (λ small. ([], short_front n small)) (λ large. (decimal (n / 10), long_front n large fits)) (cases_lt n 10)

same_front : (n : ℕ) → n % 10 < 9 → n + 1 < 2 ^ 64 → (front : List ℕ) × HasFront n front × HasFront (n + 1) front
same_front n low fits =
    ⊎_elim (λ small. ([], short_front n small, short_front (n + 1) (omega arith)))
    (λ large.
    let e : (n + 1) / 10 ≡ n / 10 = omega arith in
    (decimal (n / 10), long_front n large (omega arith), long_front (n + 1) (omega arith) fits ∙ ap (λ q. decimal q ++ (48 + (n + 1) % 10) ∷ []) e))
    (cases_lt n 10)

-- a last digit below nine is raised
pub raised : (xs : List ℕ) (last n : ℕ) → xs ++ last ∷ [] ≡ decimal n → last < 57 → n + 1 < 2 ^ 64 → xs ++ (last + 1) ∷ [] ≡ decimal (n + 1)
raised xs last n is low fits =
    let some = some_front n (omega arith) in
    let digit = (snoc_same xs some.0 last (48 + n % 10) (is ∙ some.1)).1 in
    let same = same_front n (omega (arith, digit)) fits in
    let front = (snoc_same xs same.0 last (48 + n % 10) (is ∙ same.1)).0 in
    let next : last + 1 ≡ 48 + (n + 1) % 10 = omega (arith, digit) in
    ap₂ (λ l d. l ++ d ∷ []) front next ∙ sym same.2

-- the last of the first elements stands apart, and is put anew
last_taken : (xs : List ℕ) (k : ℕ) → k < length xs → take (suc k) xs ≡ take k xs ++ get_or xs k 0 ∷ []
last_taken [] k inside = absurd (omega (arith, inside))
last_taken (x ∷ xs) zero inside = refl
last_taken (x ∷ xs) (suc k) inside = ap (λ l. x ∷ l) (last_taken xs k (omega (arith, inside)))

last_put : (xs : List ℕ) (k b : ℕ) → k < length xs → take (suc k) (slice_set xs k b) ≡ take k xs ++ b ∷ []
last_put [] k b inside = absurd (omega (arith, inside))
last_put (x ∷ xs) zero b inside = refl
last_put (x ∷ xs) (suc k) b inside = ap (λ l. x ∷ l) (last_put xs k b (omega (arith, inside)))

-- the digits before a last nine are those of a tenth, where there are some
front_of_nine : (xs : List ℕ) (last n : ℕ) → xs ++ last ∷ [] ≡ decimal n → 57 ≤ last → 0 < length xs → n < 2 ^ 64 → (xs ≡ decimal (n / 10)) × (n % 10 ≡ 9)
front_of_nine xs last n is nine some fits =
    let found = some_front n fits in
    let digit = (snoc_same xs found.0 last (48 + n % 10) (is ∙ found.1)).1 in
    ⊎_elim (λ small. absurd (let none = (snoc_same xs [] last (48 + n % 10) (is ∙ short_front n small)).0 in omega (arith, ap length none, some)))
    (λ large. ((snoc_same xs (decimal (n / 10)) last (48 + n % 10) (is ∙ long_front n large fits)).0, omega (arith, digit, nine)))
    (cases_lt n 10)

-- a last nine becomes a zero where the digit before it is below nine and is raised
pub carried : (xs : List ℕ) (len last n : ℕ) → take len xs ++ last ∷ [] ≡ decimal n → 57 ≤ last → 0 < len → len ≤ length xs → get_or xs (len - 1) 0 < 57
    → n + 1 < 2 ^ 64 → take len (slice_set xs (len - 1) (get_or xs (len - 1) 0 + 1)) ++ 48 ∷ [] ≡ decimal (n + 1)
carried xs zero last n is nine some inside low fits = absurd (omega (arith, some))
carried xs (suc k) last n is nine some inside low fits =
    let place : suc k - 1 ≡ k = omega arith in
    let low : get_or xs k 0 < 57 = rw place at low in
    let room : k < length xs = omega (arith, inside) in
    let tenth = front_of_nine (take (suc k) xs) last n is nine (omega (arith, length-take-le (suc k) xs inside)) (omega (arith, fits)) in
    let next : (n + 1) / 10 ≡ n / 10 + 1 = omega (arith, tenth.1) in
    let more : take k xs ++ (get_or xs k 0 + 1) ∷ [] ≡ decimal (n / 10 + 1) = raised (take k xs) (get_or xs k 0) (n / 10)
    (sym (last_taken xs k room) ∙ tenth.0) low (omega (arith, fits)) in
    let digit : 48 + (n + 1) % 10 ≡ 48 = omega (arith, tenth.1) in
    rw place (ap (λ l. l ++ 48 ∷ []) (last_put xs k (get_or xs k 0 + 1) room ∙ more ∙ ap decimal (sym next))
    ∙ ap (λ d. decimal ((n + 1) / 10) ++ d ∷ []) (sym digit) ∙ sym (long_front (n + 1) (omega (arith, tenth.1)) fits))

-- all but the last digit of a long number stand at the front of a buffer
pub long_digits : (front rest : List ℕ) (len n : ℕ) → length front ≡ len → front ≡ decimal (n / 10) → 10 ≤ n → n < 2 ^ 64
    → take len (front ++ rest) ++ (48 + n % 10) ∷ [] ≡ decimal n
long_digits front rest len n long is large fits =
    ap (λ k. take k (front ++ rest) ++ (48 + n % 10) ∷ []) (sym long) ∙ ap (λ l. l ++ (48 + n % 10) ∷ []) (take-append_seam front rest ∙ is)
    ∙ sym (long_front n large fits)
