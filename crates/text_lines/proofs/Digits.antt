-- The values of bytes as digits, as the table has them.
use Rattle.std.proofs.Common.{◌≡◌, ℕ, zero, suc, ◌-◌, ◌<◌, ◌≤◌, Bool, true, ◌&&◌, T, eqb, eqb→eq, get_or, eq-zero-or-pos, inl, inr, arith}
use lib.Ieee.Fits.{and_l, and_r}
use Rattle.std.proofs.lemmas.Grind.{common_steps}
use Rattle.std.proofs.lemmas.Bool.Decides.{nat_tests}
use Rattle.text_lines.specs.declared.lexical.TheConstants.{DIGITS}
use Rattle.text_lines.specs.Numbers.{digit_of}

-- the entries below n
abbrev are_values : ℕ → Bool
are_values zero = true
are_values (suc b) = eqb (get_or DIGITS b 0) (digit_of b) && are_values b

below : (n b : ℕ) → T (are_values n) → b < n → get_or DIGITS b 0 ≡ digit_of b
below zero b t h = absurd (omega arith)
below (suc n) b t h =
    elim (eq-zero-or-pos (n - b)) [
      | inl z ↦ let e : b ≡ n = omega arith in rw e (eqb→eq _ _ (and_l _ (are_values n) t))
      | inr g ↦ below n b (and_r _ (are_values n) t) (omega arith)
    ]

pub DIGITS_at : (b : ℕ) → b < 256 → get_or DIGITS b 0 ≡ digit_of b
DIGITS_at b h = below 256 b tt h

pub digit_most : (b : ℕ) → digit_of b ≤ 16
digit_most b = grind (arith, nat_tests, common_steps)
