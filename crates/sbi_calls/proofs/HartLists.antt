-- A mask of harts that is moved to its base.
use Rattle.std.proofs.Common.{◌≡◌, ◌≢◌, ℕ, ◌+◌, ◌-◌, ◌*◌, ◌^◌, ◌%◌, ◌<◌, ◌≤◌, ◌∙◌, ◌↔◌, ⊎_elim, inl, inr, Some, arith, ap, sym}
use Rattle.std.proofs.lemmas.Bool.{cases_lt}
use Rattle.std.proofs.lemmas.Nat.Bits.{bit_at-zero, bit_at_above, bit_at_cat_high, bit_at_cat_low, bit_at_ones, bit_at_ones_above}
use Rattle.std.specs.Int.{bit_at}
use Rattle.std.proofs.lemmas.Bool.Decides.{nat_tests}
use Rattle.std.proofs.lemmas.Grind.{common_steps}
use Rattle.sbi_calls.specs.HartLists.{Names, all_harts, hart_list}
use Rattle.std.proofs.Math.Nat.{mul-le-mul_right, mod-eq_of_lt}
use Rattle.std.proofs.Math.Pow.{pow_mono}
use Rattle.std.proofs.lemmas.Nat.{pow-add}

-- it stays in the word
pub moved_fits : (count mask base : ℕ) → count ≤ 64 → base < count → mask < 2 ^ (count - base) → mask * 2 ^ base < 2 ^ 64
moved_fits count mask base most inside few =
    let whole : 2 ^ (count - base) * 2 ^ base ≡ 2 ^ count = sym (pow-add 2 (count - base) base) ∙ ap (λ k. 2 ^ k) (omega (arith, inside)) in
    let below : (mask + 1) * 2 ^ base ≤ 2 ^ (count - base) * 2 ^ base = mul-le-mul_right (2 ^ base) (omega (arith, few)) in
    let some : 1 ≤ 2 ^ base = pow_mono {i = 0} {j = base} (omega arith) in
    let room : 2 ^ count ≤ 2 ^ 64 = pow_mono most in
    omega (arith, whole, below, some, room)

pub moved : (count mask base : ℕ) → count ≤ 64 → base < count → mask < 2 ^ (count - base) → mask * 2 ^ base % 2 ^ 64 ≡ mask * 2 ^ base
moved count mask base most inside few = mod-eq_of_lt (moved_fits count mask base most inside few)

pub fewer : (count mask base most : ℕ) → most ≡ all_harts (count - base) → mask ≤ most → mask < 2 ^ (count - base)
fewer count mask base most is within =
    let some : 1 ≤ 2 ^ (count - base) = pow_mono {i = 0} {j = count - base} (omega arith) in
    omega (arith, is, within, some)

-- so a list that is let through is the list
pub listed : (count mask base : ℕ) → count ≤ 64 → base ≢ 18446744073709551615 → base < count → (most : ℕ) → most ≡ all_harts (count - base)
    → mask ≤ most → Some (mask * 2 ^ base % 2 ^ 64) ≡ hart_list count mask base
listed count mask base few one inside most is within =
    let below : mask < 2 ^ (count - base) = fewer count mask base most is within in
    ap (λ x. Some x) (moved count mask base few inside below) ∙ grind (arith, nat_tests, common_steps, one, inside, below)

-- the harts of a list
pub all_named : (count mask base : ℕ) → base ≡ all_harts 64 → (hart : ℕ)
    → (bit_at (all_harts count) hart ≡ 1) ↔ ((hart < count) × Names mask base hart)
all_named count mask base all hart = (
  (λ set. ⊎_elim (λ less. (less, inl all)) (λ above. absurd (omega (arith, set, bit_at_ones_above count hart above))) (cases_lt hart count)),
  (λ named. bit_at_ones count hart named.0),
)

pub some_named : (count mask base : ℕ) → base ≢ all_harts 64 → base < count → mask < 2 ^ (count - base) → (hart : ℕ)
    → (bit_at (mask * 2 ^ base) hart ≡ 1) ↔ ((hart < count) × Names mask base hart)
some_named count mask base one inside few hart =
    let bare : bit_at (mask * 2 ^ base) hart ≡ bit_at (mask * 2 ^ base + 0) hart = ap (λ n. bit_at n hart) (omega arith) in
    let some : 1 ≤ 2 ^ base = pow_mono {i = 0} {j = base} (omega arith) in
    ⊎_elim
    (λ below.
    let low : bit_at (mask * 2 ^ base + 0) hart ≡ bit_at 0 hart = bit_at_cat_low mask base 0 hart below in
    let none : bit_at 0 hart ≡ 0 = bit_at-zero hart in (
      (λ set. absurd (omega (arith, set, bare, low, none))),
      (λ named. ⊎_elim (λ all. absurd (one all)) (λ upto. absurd (omega (arith, upto.0, below))) named.1),
    ))
    (λ upto.
    let high : bit_at (mask * 2 ^ base + 0) hart ≡ bit_at mask (hart - base) = bit_at_cat_high mask base 0 hart (omega (arith, some)) upto in (
      (λ set.
          let own : bit_at mask (hart - base) ≡ 1 = omega (arith, set, bare, high) in
          ⊎_elim (λ less. (less, inr (upto, own)))
          (λ above. absurd (omega (arith, own, bit_at_above mask (count - base) (hart - base) few (omega (arith, above, inside)))))
          (cases_lt hart count)),
      (λ named. ⊎_elim (λ all. absurd (one all)) (λ own. omega (arith, bare, high, own.1)) named.1),
    ))
    (cases_lt hart base)
