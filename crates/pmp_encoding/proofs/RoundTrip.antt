-- The canonical pair of what a pair means is that pair, but for 54 trailing ones.
use Rattle.std.proofs.Common.{◌≡◌, ℕ, ◌+◌, ◌-◌, ◌*◌, ◌/◌, ◌%◌, ◌^◌, ◌<◌, ◌≤◌, ⊎_elim, nat_eq, false, refl, sym, ap, ◌∙◌, arith, pow-add, pow_pos, mul_assoc}
use Rattle.std.proofs.lemmas.Bool.{cases_lt, ne_eqb, eq-eqb}
use Rattle.pmp_encoding.specs.declared.region.Entry.{Entry}
use Rattle.pmp_encoding.specs.Encoding.{IsNa4, IsNapot, MeansEntry, IsAllOnes, cfg_of, address_of}
use Rattle.pmp_encoding.proofs.Bytes.{pow_rises}
use Rattle.pmp_encoding.proofs.Multiples.{IsMultiple, multiple_from_mod, next_multiple}
use Rattle.pmp_encoding.proofs.Pairs.{bits_below, same_ones}

-- ---- four bytes

na4_cfg : (cfg address : ℕ) (e : Entry) → IsNa4 cfg address e → cfg_of e ≡ cfg
na4_cfg cfg address e a = rw (eq-eqb e.region.log2 2 a.size) (omega (arith, a.bits))

na4_address : (cfg address : ℕ) (e : Entry) → IsNa4 cfg address e → address_of e ≡ address
na4_address cfg address e a = rw (eq-eqb e.region.log2 2 a.size) (omega (arith, a.place))

-- ---- aligned blocks

module _ (cfg address : ℕ) (e : Entry) (a : IsNapot cfg address e) where
  size_is : nat_eq e.region.log2 2 ≡ false
  size_is = ne_eqb e.region.log2 2 (λ h. omega (arith, h, a.size))

  napot_cfg : cfg_of e ≡ cfg
  napot_cfg = rw size_is (omega (arith, a.bits))

  few_ones : a.ones ≤ 54
  few_ones =
      ⊎_elim (λ h. omega (arith, h))
      (λ h. absurd (let most = pow_rises 55 a.ones h in let small = a.small in omega (arith, a.trailing, most, small))) (cases_lt a.ones 55)

  module _ (few : a.ones ≤ 53) where
    log_is : e.region.log2 ≡ a.ones + 3
    log_is = omega (arith, a.size, few)

    block : 2 ^ e.region.log2 ≡ 2 ^ a.ones * 8
    block = ap (λ k. 2 ^ k) log_is ∙ pow-add 2 a.ones 3

    number : address + 1 ≡ (a.above * 2 ^ a.ones) * 2 + 2 ^ a.ones
    number = a.trailing ∙ ap (λ n. n + 2 ^ a.ones) (ap (λ n. a.above * n) (pow-add 2 a.ones 1) ∙ sym (mul_assoc a.above (2 ^ a.ones) 2))

    eights : a.above * (2 ^ a.ones * 8) ≡ (a.above * 2 ^ a.ones) * 8
    eights = sym (mul_assoc a.above (2 ^ a.ones) 8)

    here : IsMultiple (2 ^ a.ones * 8) e.region.base
    here = multiple_from_mod (2 ^ a.ones * 8) e.region.base (ap (λ m. e.region.base % m) (sym block) ∙ e.region.block.aligned)

    there : IsMultiple (2 ^ a.ones * 8) (a.above * (2 ^ a.ones * 8))
    there = (a.above, refl)

    base_is : e.region.base ≡ (a.above * 2 ^ a.ones) * 8
    base_is =
        ⊎_elim
        (λ under.
        absurd
        (let gap = next_multiple (2 ^ a.ones * 8) e.region.base (a.above * (2 ^ a.ones * 8)) here there under in
        let one = pow_pos a.ones in
        omega (arith, gap, one, eights, number, block, a.place.1)))
        (λ over.
        ⊎_elim
        (λ above.
        absurd
        (let gap = next_multiple (2 ^ a.ones * 8) (a.above * (2 ^ a.ones * 8)) e.region.base there here above in
        let one = pow_pos a.ones in
        omega (arith, gap, one, eights, number, block, a.place.0)))
        (λ low. omega (arith, over, low, eights)) (cases_lt (a.above * (2 ^ a.ones * 8)) e.region.base))
        (cases_lt e.region.base (a.above * (2 ^ a.ones * 8)))

    part_address : address_of e ≡ address
    part_address =
        let less : e.region.log2 - 3 ≡ a.ones = omega (arith, log_is) in
        let power : 2 ^ (e.region.log2 - 3) ≡ 2 ^ a.ones = ap (λ k. 2 ^ k) less in
        let one = pow_pos a.ones in
        rw size_is (omega (arith, base_is, power, number, one))

  all_ones : 54 ≤ a.ones → address + 1 ≡ 2 ^ 54
  all_ones many =
      let is : a.ones ≡ 54 = let most = few_ones in omega (arith, many, most) in
      let power : 2 ^ a.ones ≡ 2 ^ 54 = ap (λ k. 2 ^ k) is in
      let double : 2 ^ (a.ones + 1) ≡ 2 ^ 55 = ap (λ k. 2 ^ (k + 1)) is in
      let small = a.small in
      sum a.above (omega (arith, a.trailing, power, ap (λ n. a.above * n) double)) small
    where
      sum : (above : ℕ) → address + 1 ≡ above * 2 ^ 55 + 2 ^ 54 → address < 2 ^ 54 → address + 1 ≡ 2 ^ 54
      sum above e small = omega (arith, e, small)

  mode_is : cfg / 8 ≡ 3
  mode_is = let below = bits_below e.perm in omega (arith, a.bits, below)

  napot_address : ¬ IsAllOnes cfg address → address_of e ≡ address
  napot_address not_all = ⊎_elim (λ h. part_address (omega (arith, h))) (λ h. absurd (not_all (mode_is, all_ones h))) (cases_lt a.ones 54)

  whole_address : IsAllOnes cfg address → address_of e ≡ 2 ^ 53 - 1
  whole_address all =
      let is : a.ones ≡ 54 = same_ones address a.ones 54 (record { above = a.above; split = a.trailing })
      (record { above = 0; split = omega (arith, all.1) }) in
      let size : e.region.log2 ≡ 56 = omega (arith, a.size, is) in
      let inside = e.region.block.inside in
      let power : 2 ^ e.region.log2 ≡ 2 ^ 56 = ap (λ k. 2 ^ k) size in
      let base : e.region.base ≡ 0 = omega (arith, inside, power) in
      let less : e.region.log2 - 3 ≡ 53 = omega (arith, size) in
      let ones : 2 ^ (e.region.log2 - 3) ≡ 2 ^ 53 = ap (λ k. 2 ^ k) less in
      rw size_is (omega (arith, base, ones))

-- ---- both

pub cfg_back : (cfg address : ℕ) (e : Entry) → MeansEntry cfg address e → cfg_of e ≡ cfg
cfg_back cfg address e p = ⊎_elim (na4_cfg cfg address e) (napot_cfg cfg address e) p

pub address_back : (cfg address : ℕ) (e : Entry) → MeansEntry cfg address e → ¬ IsAllOnes cfg address → address_of e ≡ address
address_back cfg address e p not_all = ⊎_elim (na4_address cfg address e) (λ a. napot_address cfg address e a not_all) p

pub all_ones_back : (cfg address : ℕ) (e : Entry) → MeansEntry cfg address e → IsAllOnes cfg address → address_of e ≡ 2 ^ 53 - 1
all_ones_back cfg address e p all =
    ⊎_elim (λ a. absurd (let below = bits_below e.perm in omega (arith, a.bits, all.0, below))) (λ a. whole_address cfg address e a all) p
