-- A word in which one bit was set or cleared.
use Rattle.std.proofs.Common.{◌≡◌, ◌≢◌, ℕ, ◌^◌, arith, bit_and, bit_or, bit_xor}
use Rattle.std.proofs.lemmas.Nat.Bits.{bit_at_and, bit_at_or, bit_at_xor, bit_at-lt, bit_at-pow_same, bit_at-pow_other}
use Rattle.std.specs.Int.{bit_at}

pub set_here : (word place : ℕ) → bit_at (bit_or word (2 ^ place)) place ≡ 1
set_here word place = omega (arith, bit_at_or word (2 ^ place) place, bit_at-pow_same place, bit_at-lt word place)

pub set_elsewhere : (word place i : ℕ) → i ≢ place → bit_at (bit_or word (2 ^ place)) i ≡ bit_at word i
set_elsewhere word place i other = omega (arith, bit_at_or word (2 ^ place) i, bit_at-pow_other place i other)

pub cleared_here : (word place : ℕ) → bit_at (bit_xor word (bit_and word (2 ^ place))) place ≡ 0
cleared_here word place =
    omega (arith, bit_at_xor word (bit_and word (2 ^ place)) place, bit_at_and word (2 ^ place) place, bit_at-pow_same place, bit_at-lt word place)

pub cleared_elsewhere : (word place i : ℕ) → i ≢ place → bit_at (bit_xor word (bit_and word (2 ^ place))) i ≡ bit_at word i
cleared_elsewhere word place i other =
    omega (arith, bit_at_xor word (bit_and word (2 ^ place)) i, bit_at_and word (2 ^ place) i, bit_at-pow_other place i other, bit_at-lt word i)
