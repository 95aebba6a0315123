-- Sizes as the bits of a number.
use Rattle.std.proofs.Common.{◌≡◌, ℕ, ◌*◌, ◌%◌, ◌^◌, ◌<◌, ◌≤◌, ⊎_elim, arith, ap}
use Rattle.std.proofs.Math.Pow.{pow-lt}
use Rattle.std.proofs.lemmas.Bool.{cases_lt}
use Rattle.std.proofs.lemmas.Nat.{and_le_l, or_lt}
use Rattle.std.proofs.lemmas.Nat.Bits.{bit_at_above, bit_at-trailing_zeros}
use Rattle.std.specs.Int.{bit_at, trailing_zeros, w64}
use lib.Bits.{bit_and, bit_or}

pub few_set : (n k : ℕ) → k < 45 → n < 2 ^ 45 → bit_or n (1 * 2 ^ k % 2 ^ 64) < 2 ^ 45
few_set n k small few = or_lt 45 n (1 * 2 ^ k % 2 ^ 64) few (let more : 2 ^ k < 2 ^ 45 = pow-lt small in omega (arith, more))

-- a number that lost a bit is less
pub less_without : (n m k : ℕ) → bit_at (bit_and n m) k ≡ 0 → bit_at n k ≡ 1 → bit_and n m < n
less_without n m k off on =
    ⊎_elim (λ less. less)
    (λ upto.
    let most : bit_and n m ≤ n = and_le_l n m in
    let same : bit_and n m ≡ n = omega (arith, upto, most) in
    let bits : bit_at (bit_and n m) k ≡ bit_at n k = ap (λ x. bit_at x k) same in
    absurd (omega (arith, bits, off, on)))
    (cases_lt (bit_and n m) n)

-- the lowest bit is below all that the number can have
pub least_small : (n : ℕ) → 0 < n → n < 2 ^ 45 → trailing_zeros w64 n < 45
least_small n some few =
    ⊎_elim (λ less. less)
    (λ upto.
    let on = (bit_at-trailing_zeros w64 n some (omega (arith, few))).1 in
    let off = bit_at_above n 45 (trailing_zeros w64 n) few upto in
    absurd (omega (arith, on, off)))
    (cases_lt (trailing_zeros w64 n) 45)
