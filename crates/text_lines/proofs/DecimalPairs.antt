-- Numbers written in decimal, two digits at a time.
use Rattle.std.proofs.Common.{◌≡◌, ℕ, zero, suc, ◌+◌, ◌-◌, ◌*◌, ◌/◌, ◌%◌, ◌^◌, ◌<◌, ◌≤◌, ◌∙◌, Bool, true, ◌&&◌, T, eqb, eqb→eq, List, [], ◌∷◌, ◌++◌, get_or}
use Rattle.std.proofs.Common.{eq-zero-or-pos, inl, inr, ap, sym, append_assoc, arith}
use lib.Ieee.Fits.{and_l, and_r}
use Rattle.std.specs.Prelude.{decimal}
use Rattle.itoa.proofs.Decimal.{decimal_pair, decimal_four}
use Rattle.text_lines.specs.declared.written.TheConstants.{PAIRS}

-- the pairs below n
abbrev are_pairs : ℕ → Bool
are_pairs zero = true
are_pairs (suc p) = (eqb (get_or PAIRS (p * 2) 0) (48 + p / 10) && eqb (get_or PAIRS (p * 2 + 1) 0) (48 + p % 10)) && are_pairs p

below : (n p : ℕ) → T (are_pairs n) → p < n → (get_or PAIRS (p * 2) 0 ≡ 48 + p / 10) × (get_or PAIRS (p * 2 + 1) 0 ≡ 48 + p % 10)
below zero p t h = absurd (omega arith)
below (suc n) p t h =
    elim (eq-zero-or-pos (n - p)) [
      | inl z ↦ let e : p ≡ n = omega arith in let a = and_l _ (are_pairs n) t in rw e (eqb→eq _ _ (and_l _ _ a), eqb→eq _ _ (and_r _ _ a))
      | inr g ↦ below n p (and_r _ (are_pairs n) t) (omega arith)
    ]

PAIRS_at : (p : ℕ) → p < 100 → (get_or PAIRS (p * 2) 0 ≡ 48 + p / 10) × (get_or PAIRS (p * 2 + 1) 0 ≡ 48 + p % 10)
PAIRS_at p h = below 100 p tt h

-- the digits of a pair, as the table has them
pub pair_put : (before between after : List ℕ) (p : ℕ) → p < 100 → between ≡ before ++ get_or PAIRS (p * 2) 0 ∷ []
    → after ≡ between ++ get_or PAIRS (p * 2 + 1) 0 ∷ [] → after ≡ before ++ (48 + p / 10) ∷ (48 + p % 10) ∷ []
pair_put before between after p small one two =
    let digits = PAIRS_at p small in
    two ∙ ap (λ xs. xs ++ get_or PAIRS (p * 2 + 1) 0 ∷ []) one ∙ append_assoc before (get_or PAIRS (p * 2) 0 ∷ []) (get_or PAIRS (p * 2 + 1) 0 ∷ [])
    ∙ ap (λ d. before ++ d ∷ get_or PAIRS (p * 2 + 1) 0 ∷ []) digits.0 ∙ ap (λ d. before ++ (48 + p / 10) ∷ d ∷ []) digits.1

-- a pair after a number
pub short_put : (before between after : List ℕ) (n : ℕ) → 100 ≤ n → n < 2 ^ 64 → between ≡ before ++ decimal (n / 100)
    → after ≡ between ++ (48 + n % 100 / 10) ∷ (48 + n % 100 % 10) ∷ [] → after ≡ before ++ decimal n
short_put before between after n large fits one two =
    let pair = (48 + n % 100 / 10) ∷ (48 + n % 100 % 10) ∷ [] in
    two ∙ ap (λ xs. xs ++ pair) one ∙ append_assoc before (decimal (n / 100)) pair ∙ ap (λ xs. before ++ xs) (sym (decimal_pair n large fits))

-- two pairs after a number
pub four_put : (before number between after : List ℕ) (n : ℕ) → 10000 ≤ n → n < 2 ^ 64 → number ≡ before ++ decimal (n / 10000)
    → between ≡ number ++ (48 + n % 10000 / 100 / 10) ∷ (48 + n % 10000 / 100 % 10) ∷ []
    → after ≡ between ++ (48 + n % 10000 % 100 / 10) ∷ (48 + n % 10000 % 100 % 10) ∷ [] → after ≡ before ++ decimal n
four_put before number between after n large fits one two three =
    let high = (48 + n % 10000 / 100 / 10) ∷ (48 + n % 10000 / 100 % 10) ∷ [] in
    let low = (48 + n % 10000 % 100 / 10) ∷ (48 + n % 10000 % 100 % 10) ∷ [] in
    three ∙ ap (λ xs. xs ++ low) (two ∙ ap (λ xs. xs ++ high) one) ∙ append_assoc (before ++ decimal (n / 10000)) high low
    ∙ append_assoc before (decimal (n / 10000)) (high ++ low) ∙ ap (λ xs. before ++ xs) (sym (decimal_four n large fits))
