-- Bytes of a word.
use Rattle.std.proofs.Common.{mul-le-mul_right, mul_assoc, zero-add, ◌≡◌, ◌≢◌, ℕ, ◌+◌, ◌-◌, ◌*◌, ◌/◌, ◌%◌, ◌^◌, ◌<◌, ◌≤◌, ⊎_elim, sym, ap, ◌∙◌, arith, pow_pos}
use Rattle.std.proofs.Common.{pow-add}
use Rattle.std.proofs.Math.Nat.{pow-le-pow_right, mod-eq_of_lt, add-mul-div_right, add-mul-mod_self_right, div-eq_of_lt}
use Rattle.std.proofs.lemmas.Bool.{cases_lt}
use Rattle.pmp_encoding.specs.Registers.{byte_of}

pub pow_rises : (j k : ℕ) → j ≤ k → 2 ^ j ≤ 2 ^ k
pow_rises j k h = pow-le-pow_right {n = 2} (omega arith) {i = j} {j = k} h

-- a number below the byte has a zero there
pub byte_past : (word j : ℕ) → word < 2 ^ (8 * j) → byte_of word j ≡ 0
byte_past word j h = ap (λ n. n % 256) (div-eq_of_lt h)

module _ (word j byte : ℕ) (place : j < 8) (above : word < 2 ^ (8 * j)) (fits : byte < 256) where
  top : 2 ^ (8 * j) ≤ 2 ^ 56
  top = pow_rises (8 * j) 56 (omega arith)

  worth : byte * 2 ^ (8 * j) ≤ 255 * 2 ^ (8 * j)
  worth = mul-le-mul_right (2 ^ (8 * j)) (let most : byte ≤ 255 = omega arith in most)

  pub put_shifted : byte * 2 ^ (8 * j) % 2 ^ 64 ≡ byte * 2 ^ (8 * j)
  put_shifted = mod-eq_of_lt (omega (arith, worth, top))

  pub put_small : word + byte * 2 ^ (8 * j) < 2 ^ (8 * (j + 1))
  put_small =
      let e : 2 ^ (8 * (j + 1)) ≡ 2 ^ (8 * j) * 2 ^ 8 = (let s : 8 * (j + 1) ≡ 8 * j + 8 = omega arith in ap (λ n. 2 ^ n) s ∙ pow-add 2 (8 * j) 8) in
      omega (arith, e, worth)

  pub put_here : byte_of (word + byte * 2 ^ (8 * j)) j ≡ byte
  put_here =
      let e : (word + byte * 2 ^ (8 * j)) / 2 ^ (8 * j) ≡ byte = add-mul-div_right word byte (pow_pos (8 * j)) ∙ ap (λ n. n + byte) (div-eq_of_lt above)
      ∙ zero-add byte in
      ap (λ n. n % 256) e ∙ mod-eq_of_lt fits

  pub put_others : (k : ℕ) → k ≢ j → byte_of (word + byte * 2 ^ (8 * j)) k ≡ byte_of word k
  put_others k apart = ⊎_elim below (λ under. over (omega arith)) (cases_lt k j)
    where
      below : k < j → byte_of (word + byte * 2 ^ (8 * j)) k ≡ byte_of word k
      below h =
          let rest : (d : ℕ) × (8 * j ≡ (d + 8) + 8 * k) = (8 * (j - k - 1), omega arith) in
          let split : 2 ^ (8 * j) ≡ (2 ^ rest.0 * 256) * 2 ^ (8 * k) =
          ap (λ n. 2 ^ n) rest.1 ∙ pow-add 2 (rest.0 + 8) (8 * k) ∙ ap (λ n. n * 2 ^ (8 * k)) (pow-add 2 rest.0 8) in
          let part : byte * 2 ^ (8 * j) ≡ (byte * 2 ^ rest.0 * 256) * 2 ^ (8 * k) =
          ap (λ n. byte * n) split ∙ sym (mul_assoc byte (2 ^ rest.0 * 256) (2 ^ (8 * k)))
          ∙ ap (λ n. n * 2 ^ (8 * k)) (sym (mul_assoc byte (2 ^ rest.0) 256)) in
          ap (λ n. (word + n) / 2 ^ (8 * k) % 256) part
          ∙ ap (λ n. n % 256) (add-mul-div_right word (byte * 2 ^ rest.0 * 256) (pow_pos (8 * k)))
          ∙ add-mul-mod_self_right (word / 2 ^ (8 * k)) (byte * 2 ^ rest.0) 256

      over : j < k → byte_of (word + byte * 2 ^ (8 * j)) k ≡ byte_of word k
      over h =
          let most : 2 ^ (8 * (j + 1)) ≤ 2 ^ (8 * k) = pow_rises (8 * (j + 1)) (8 * k) (omega arith) in
          let less : 2 ^ (8 * j) ≤ 2 ^ (8 * k) = pow_rises (8 * j) (8 * k) (omega arith) in
          byte_past (word + byte * 2 ^ (8 * j)) k (omega (arith, put_small, most)) ∙ sym (byte_past word k (omega arith))
