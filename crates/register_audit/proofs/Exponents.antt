-- Exponents of sizes.
use Rattle.std.proofs.Common.{◌≡◌, ◌≢◌, ◌∙◌, refl, Bool, true, false, nat_eq, ℕ, suc, ◌+◌, ◌-◌, ◌^◌, ◌<◌, ◌≤◌, None, Some, ap, sym, arith}
use Rattle.std.proofs.lemmas.Bool.{eqb-true, eqb-false}
use Rattle.std.proofs.lemmas.Bool.Decides.{nat_tests}
use Rattle.std.proofs.lemmas.Grind.{common_steps}
use Rattle.std.specs.Option.{option_and_then}
use Rattle.pmp_encoding.specs.declared.xlen.Xlen.{Xlen}
use Rattle.register_audit.specs.Blocks.{block_at, block_from, exponent_from, exponent_of, is_all}

-- one exponent on
pub exponent_step : (k end size : ℕ) → k < end → size ≢ 2 ^ k → exponent_from (k + 1) (end - (k + 1)) size ≡ exponent_from k (end - k) size
exponent_step k end size less other =
    let one : end - k ≡ suc (end - (k + 1)) = omega (arith, less) in
    sym (ap (λ n. exponent_from k n size) one ∙ step (end - (k + 1)))
  where
    step : (count : ℕ) → exponent_from k (suc count) size ≡ exponent_from (k + 1) count size
    step count = grind (arith, nat_tests, common_steps, other)

pub exponent_here : (k end size : ℕ) → k < end → size ≡ 2 ^ k → Some k ≡ exponent_from k (end - k) size
exponent_here k end size less same =
    let one : end - k ≡ suc (end - (k + 1)) = omega (arith, less) in
    sym (ap (λ n. exponent_from k n size) one ∙ here (end - (k + 1)))
  where
    here : (count : ℕ) → exponent_from k (suc count) size ≡ Some k
    here count = grind (arith, nat_tests, common_steps, same)

-- neither is a power of two from the second on, and this one is not: none up to it is
pub other_up_to : (j size : ℕ) → ((k : ℕ) → 2 ≤ k → k < j → size ≢ 2 ^ k) → size ≢ 2 ^ j → (k : ℕ) → 2 ≤ k → k < j + 1 → size ≢ 2 ^ k
other_up_to j size before here k least most = by (nat_eq k j) refl
  where
    by : (t : Bool) → nat_eq k j ≡ t → size ≢ 2 ^ k
    by true h = let same : k ≡ j = eqb-true k j h in λ is. here (is ∙ ap (λ n. 2 ^ n) same)
    by false h = before k least (omega (arith, eqb-false k j h, most))

pub exponent_of_is : (size : ℕ) → exponent_of size ≡ exponent_from 2 55 size
unfolding exponent_of
exponent_of_is size = refl

exponent_of_none : exponent_of 0 ≡ None
unfolding exponent_of
exponent_of_none = refl

-- no block ends before it begins
pub none_before : (xlen : Xlen) (first last : ℕ) → is_all xlen first last ≡ false → last < first → block_from xlen first last ≡ None
none_before xlen first last some less =
    let size : last + 1 - first ≡ 0 = omega (arith, less) in
    rw some (ap (λ n. option_and_then (block_at xlen first) (exponent_of n)) size ∙ ap (option_and_then (block_at xlen first)) exponent_of_none)
