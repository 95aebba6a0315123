-- The value of digits, from the first on.
use Rattle.std.proofs.Common.{◌≡◌, ℕ, ◌+◌, ◌*◌, ◌^◌, ◌<◌, ◌≤◌, ◌∙◌, true, zero, suc, List, [], ◌∷◌, length, length-take-le, get_or, take, drop, refl, ap, sym}
use Rattle.std.proofs.Common.{ltb, fold, take-append-drop, take_all, mul-le-mul_right, Some, None, lit<, arith}
use Rattle.std.proofs.Math.Nat.{pow-le-pow_right}
use Rattle.std.proofs.lemmas.Nat.{pow-add}
use Rattle.std.proofs.lemmas.Bool.{and_right, and_from, lt-ltb, le-ltb, cond-true}
use Rattle.std.proofs.lemmas.List.{drop_all}
use Rattle.std.proofs.lemmas.Grind.{common_steps, fold-append}
use Rattle.std.specs.Prelude.{nat_lt}
use Rattle.std.specs.List.{list_all}
use Rattle.text_lines.specs.Numbers.{BeginsNumeral, EndsDigits, digit_of, value_of, is_numeral, numeral_of}

-- more digits make no smaller value
grows : (base : ℕ) → 1 ≤ base → (value : ℕ) (digits : List ℕ) → value ≤ fold (λ v b. base * v + digit_of b) value digits
grows base h value [] = omega arith
grows base h value (b ∷ digits) =
    let step = grows base h (base * value + digit_of b) digits in
    let least : value ≤ base * value = grind (arith, mul-le-mul_right value h) in
    omega (arith, step)

fold-take_drop : (base : ℕ) (digits : List ℕ) (i : ℕ) → value_of base digits ≡ fold (λ v b. base * v + digit_of b) (value_of base (take i digits))
    (drop i digits)
fold-take_drop base digits i = ap (value_of base) (sym (take-append-drop i digits))
    ∙ fold-append (λ v b. base * v + digit_of b) 0 (take i digits) (drop i digits)

-- the value of the digits so far is no more than that of all
pub value_of-front : (base : ℕ) → 1 ≤ base → (digits : List ℕ) (i : ℕ) → value_of base (take i digits) ≤ value_of base digits
value_of-front base h digits i =
    rw (fold-take_drop base digits i) (grows base h (value_of base (take i digits)) (drop i digits))

pub value_of-next : (base : ℕ) (digits : List ℕ) (i : ℕ) → i < length digits
    → value_of base (take (i + 1) digits) ≡ base * value_of base (take i digits) + digit_of (get_or digits i 0)
value_of-next base digits i h = grind (arith, common_steps)

-- a value of 2^64 or more is none
pub numeral_of-large : (base : ℕ) (digits : List ℕ) → 2 ^ 64 ≤ value_of base digits → numeral_of base digits ≡ None
numeral_of-large base digits h = rw (and_right (is_numeral base digits) (ltb (value_of base digits) (2 ^ 64)) (le-ltb (value_of base digits) (2 ^ 64) h)) refl

-- digits whose front is 2^64 or more spell no number
pub numeral_of-overflow : (base : ℕ) (digits : List ℕ) (i : ℕ) → 2 ≤ base → i < length digits
    → 2 ^ 64 ≤ base * value_of base (take i digits) + digit_of (get_or digits i 0) → numeral_of base digits ≡ None
numeral_of-overflow base digits i h below large = numeral_of-large base digits
    (omega (arith, value_of-front base (omega arith) digits (i + 1), value_of-next base digits i below))

-- the same where the product alone is too large
pub numeral_of-overflow_product : (base : ℕ) (digits : List ℕ) (i value factor : ℕ) → 2 ≤ base → i < length digits → value ≡ value_of base (take i digits)
    → factor ≡ base → (value * factor < 2 ^ 64 → ⊥) → numeral_of base digits ≡ None
numeral_of-overflow_product base digits i value factor h below is same large =
    let large = rw (is, same) at large in
    numeral_of-overflow base digits i h below (omega (arith, large))

-- the same where the sum is
pub numeral_of-overflow_sum : (base : ℕ) (digits : List ℕ) (i value factor product digit : ℕ) → 2 ≤ base → i < length digits
    → value ≡ value_of base (take i digits) → factor ≡ base → product ≡ value * factor → digit ≡ digit_of (get_or digits i 0) → (product + digit < 2 ^ 64 → ⊥)
    → numeral_of base digits ≡ None
numeral_of-overflow_sum base digits i value factor product digit h below is same times last large =
    let product_is = rw (is, same) at times in
    numeral_of-overflow base digits i h below (omega (arith, large, product_is, last))

-- digits that fit spell their value
pub numeral_of-value : (base : ℕ) (digits : List ℕ) (i value : ℕ) → length digits ≤ i → 0 < length digits → value ≡ value_of base (take i digits)
    → value < 2 ^ 64 → list_all (λ b. nat_lt (digit_of b) base) (take i digits) ≡ true → Some value ≡ numeral_of base digits
numeral_of-value base digits i value end some is fits all =
    let whole : take i digits ≡ digits = take_all i digits end in
    let is : value ≡ value_of base digits = is ∙ ap (value_of base) whole in
    let numeral : is_numeral base digits ≡ true = and_from _ _ (lt-ltb 0 (length digits) some)
    (ap (list_all (λ b. nat_lt (digit_of b) base)) (sym whole) ∙ all) in
    let fits : ltb (value_of base digits) (2 ^ 64) ≡ true = lt-ltb (value_of base digits) (2 ^ 64) (omega arith) in
    ap Some is ∙ sym (cond-true _ (Some (value_of base digits)) None (and_from _ _ numeral fits))

-- digits that end before the rest of a text, and spell their value
pub begins_numeral : (base : ℕ) (text : List ℕ) (n value : ℕ) → n ≤ length text → (n ≡ 0 → ⊥) → value ≡ value_of base (take n text) → value < 2 ^ 64
    → list_all (λ b. nat_lt (digit_of b) base) (take n text) ≡ true → EndsDigits base (drop n text) → BeginsNumeral base text value (drop n text)
begins_numeral base text n value within some is fits all ends =
    let long : length (take n text) ≡ n = length-take-le n text within in
    record {
      digits = take n text;
      parts = sym (take-append-drop n text);
      value_is = sym (numeral_of-value base (take n text) n value (omega (arith, long)) (omega (arith, long, some))
          (is ∙ ap (value_of base) (sym (take_all n (take n text) (omega (arith, long))))) fits
          (ap (list_all (λ b. nat_lt (digit_of b) base)) (take_all n (take n text) (omega (arith, long))) ∙ all));
      ends = ends;
    }

-- a byte that is no digit stands there, or nothing does
pub ends_here : (base : ℕ) (text : List ℕ) (n digit : ℕ) → n < length text → digit ≡ digit_of (get_or text n 0) → base ≤ digit → EndsDigits base (drop n text)
ends_here base [] n digit below is large = absurd (omega (arith, below))
ends_here base (b ∷ text) zero digit below is large = le-ltb (digit_of b) base (omega (arith, is, large))
ends_here base (b ∷ text) (suc n) digit below is large = ends_here base text n digit (omega (arith, below)) is large

pub ends_all : (base : ℕ) (text : List ℕ) (n : ℕ) → length text ≤ n → EndsDigits base (drop n text)
ends_all base text n all = let none : drop n text ≡ [] = drop_all n text all in rw none tt

-- one more decimal digit
pub decimal_more : (value len digit : ℕ) → value < 10 ^ len → digit < 10 → value * 10 + digit < 10 ^ (len + 1)
decimal_more value len digit small one = let more : 10 ^ (len + 1) ≡ 10 ^ len * 10 = pow-add 10 len 1 in omega (arith, small, one, more)

-- nineteen decimal digits fit
pub decimal_fits : (value len : ℕ) → value < 10 ^ len → len ≤ 19 → value < 2 ^ 64
decimal_fits value len small few = let most : 10 ^ len ≤ 10 ^ 19 = pow-le-pow_right (lit< tt) few in omega (arith, small, most)
