-- The lowest bytes of a number.
use Rattle.std.proofs.Common.{◌≡◌, ℕ, zero, suc, ◌+◌, ◌-◌, ◌*◌, ◌/◌, ◌%◌, ◌^◌, ◌<◌, ◌≤◌, ◌∙◌, ⊎_elim, [], ◌∷◌, arith, ap, sym, mul_assoc, zero-add, pow_pos}
use Rattle.std.proofs.Common.{pow-add, if◌then◌else◌, nat_lt, slice_index_or}
use Rattle.std.specs.Int.Bits.{bit_and, and_mask}
use Rattle.std.proofs.Math.Arith.{mod-mul}
use Rattle.std.proofs.Math.Nat.{add-mul-div_right, add-mul-mod_self_right, div-div-eq-div-mul, div-eq_of_lt, div-lt_iff_lt-mul}
use Rattle.std.proofs.lemmas.Nat.{div-add-mod', mod_below, mul-add-lt}
use Rattle.std.proofs.lemmas.Bool.{cases_lt}
use Rattle.std.proofs.lemmas.Bool.Decides.{nat_tests}
use Rattle.std.proofs.lemmas.Grind.{common_steps}
use Rattle.pmp_encoding.specs.Registers.{byte_of}
use Rattle.hart_sim.specs.Memory.{bytes_at, number_of_bytes, in_range}

-- the table's mask of so many bytes keeps them
pub masked : (number size : ℕ) → size ≤ 8
    → bit_and number (slice_index_or {A = ℕ} (0 ∷ 255 ∷ 65535 ∷ 16777215 ∷ 4294967295 ∷ 1099511627775 ∷ 281474976710655 ∷ 72057594037927935
    ∷ 18446744073709551615 ∷ []) size 0) ≡ number % 2 ^ (8 * size)
masked number zero few = and_mask number 0
masked number (suc zero) few = and_mask number 8
masked number (suc (suc zero)) few = and_mask number 16
masked number (suc (suc (suc zero))) few = and_mask number 24
masked number (suc (suc (suc (suc zero)))) few = and_mask number 32
masked number (suc (suc (suc (suc (suc zero))))) few = and_mask number 40
masked number (suc (suc (suc (suc (suc (suc zero)))))) few = and_mask number 48
masked number (suc (suc (suc (suc (suc (suc (suc zero))))))) few = and_mask number 56
masked number (suc (suc (suc (suc (suc (suc (suc (suc zero)))))))) few = and_mask number 64
masked number (suc (suc (suc (suc (suc (suc (suc (suc (suc size))))))))) few = absurd (omega arith)

-- what a byte more is worth
power_more : (n : ℕ) → 2 ^ (8 * suc n) ≡ 2 ^ (8 * n) * 256
power_more n = (let s : 8 * suc n ≡ 8 * n + 8 = omega arith in ap (λ i. 2 ^ i) s) ∙ pow-add 2 (8 * n) 8

-- the lowest bytes of a number are the number of those bytes alone
pub lowest_are : (memory : ℕ → ℕ) (address count size : ℕ) → size ≤ count → ((a : ℕ) → memory a < 256)
    → number_of_bytes (bytes_at memory address count) % 2 ^ (8 * size) ≡ number_of_bytes (bytes_at memory address size)
unfolding bytes_at
lowest_are memory address count zero within bytes = omega arith
lowest_are memory address zero (suc size) within bytes = absurd (omega arith)
lowest_are memory address (suc count) (suc size) within bytes =
    let rest = number_of_bytes (bytes_at memory (address + 1) count) in
    let number = memory address + 256 * rest in
    let byte : memory address < 256 = bytes address in
    let above : number / 256 ≡ rest = omega (arith, byte) in
    let lowest : number % 256 ≡ memory address = omega (arith, byte) in
    let more = ap (λ n. n % 2 ^ (8 * size)) above ∙ lowest_are memory (address + 1) count size (omega arith) bytes in
    let parts = ap (λ n. number % n) (power_more size) ∙ mod-mul number {m = 2 ^ (8 * size)} {c = 256} (pow_pos (8 * size)) (omega arith) in
    omega (arith, parts, more, lowest)

-- a byte of a number is the one that stands there
byte_is : (memory : ℕ → ℕ) (address count k : ℕ) → k < count → ((a : ℕ) → memory a < 256)
    → byte_of (number_of_bytes (bytes_at memory address count)) k ≡ memory (address + k)
unfolding bytes_at
byte_is memory address zero k within bytes = absurd (omega arith)
byte_is memory address (suc count) zero within bytes =
    let byte : memory address < 256 = bytes address in
    let here : address ≡ address + 0 = omega arith in
    let lowest : (memory address + 256 * number_of_bytes (bytes_at memory (address + 1) count)) / 1 % 256 ≡ memory address = omega (arith, byte) in
    lowest ∙ ap memory here
byte_is memory address (suc count) (suc k) within bytes =
    let rest = number_of_bytes (bytes_at memory (address + 1) count) in
    let number = memory address + 256 * rest in
    let byte : memory address < 256 = bytes address in
    let above : number / 256 ≡ rest = omega (arith, byte) in
    let power : 2 ^ (8 * suc k) ≡ 256 * 2 ^ (8 * k) = (let e = power_more k in omega (arith, e)) in
    let there : address + 1 + k ≡ address + suc k = omega arith in
    ap (λ n. number / n % 256) power ∙ ap (λ n. n % 256) (sym (div-div-eq-div-mul number 256 (2 ^ (8 * k)))) ∙ ap (λ n. byte_of n k) above
    ∙ byte_is memory (address + 1) count k (omega arith) bytes ∙ ap memory there

-- the bytes from a place on change no byte below it
low_byte : (low high size k : ℕ) → k < size → byte_of (low + high * 2 ^ (8 * size)) k ≡ byte_of low k
low_byte low high size k below =
    let more = 8 * (size - k - 1) in
    let split : 2 ^ (8 * size) ≡ (2 ^ more * 256) * 2 ^ (8 * k) =
    (let s : 8 * size ≡ (more + 8) + 8 * k = omega arith in ap (λ n. 2 ^ n) s) ∙ pow-add 2 (more + 8) (8 * k) ∙ ap (λ n. n * 2 ^ (8 * k)) (pow-add 2 more 8) in
    let part : high * 2 ^ (8 * size) ≡ (high * 2 ^ more * 256) * 2 ^ (8 * k) =
    ap (λ n. high * n) split ∙ sym (mul_assoc high (2 ^ more * 256) (2 ^ (8 * k))) ∙ ap (λ n. n * 2 ^ (8 * k)) (sym (mul_assoc high (2 ^ more) 256)) in
    ap (λ n. byte_of (low + n) k) part
    ∙ ap (λ n. n % 256) (add-mul-div_right low (high * 2 ^ more * 256) (pow_pos (8 * k)))
    ∙ add-mul-mod_self_right (low / 2 ^ (8 * k)) (high * 2 ^ more) 256

-- nor do those below the place change one above it
high_byte : (low high size k : ℕ) → low < 2 ^ (8 * size) → size ≤ k → byte_of (low + high * 2 ^ (8 * size)) k ≡ high / 2 ^ (8 * (k - size)) % 256
high_byte low high size k small above =
    let split : 2 ^ (8 * k) ≡ 2 ^ (8 * size) * 2 ^ (8 * (k - size)) = (let s : 8 * k ≡ 8 * size + 8 * (k - size) = omega arith in ap (λ n. 2 ^ n) s)
    ∙ pow-add 2 (8 * size) (8 * (k - size)) in
    let number = low + high * 2 ^ (8 * size) in
    let rest : number / 2 ^ (8 * size) ≡ high = add-mul-div_right low high (pow_pos (8 * size)) ∙ ap (λ n. n + high) (div-eq_of_lt small) ∙ zero-add high in
    ap (λ n. number / n % 256) split ∙ ap (λ n. n % 256) (sym (div-div-eq-div-mul number (2 ^ (8 * size)) (2 ^ (8 * (k - size))))
    ∙ ap (λ n. n / 2 ^ (8 * (k - size))) rest)

-- a number is its lowest bytes and the rest
in_parts : (number size : ℕ) → number ≡ number % 2 ^ (8 * size) + number / 2 ^ (8 * size) * 2 ^ (8 * size)
in_parts number size = omega (arith, div-add-mod' number (2 ^ (8 * size)))

-- the lowest bytes of a value in place of its own, and the same rest
replaced : (number size value : ℕ) → number - number % 2 ^ (8 * size) + value % 2 ^ (8 * size) ≡ value % 2 ^ (8 * size) + number / 2 ^ (8 * size) * 2 ^
    (8 * size)
replaced number size value = omega (arith, in_parts number size)

-- which is no larger than eight bytes hold
pub replaced_fits : (number size value : ℕ) → size ≤ 8 → number < 2 ^ 64 → number - number % 2 ^ (8 * size) + value % 2 ^ (8 * size) < 2 ^ 64
replaced_fits number size value few fits =
    let power = 2 ^ (8 * size) in
    let rest = 2 ^ (8 * (8 - size)) in
    let split : 2 ^ 64 ≡ rest * power = (let s : 64 ≡ 8 * (8 - size) + 8 * size = omega arith in ap (λ n. 2 ^ n) s) ∙ pow-add 2 (8 * (8 - size)) (8 * size) in
    let above : number / power < rest = (div-lt_iff_lt-mul (pow_pos (8 * size))).1 (omega (arith, split)) in
    let both = mul-add-lt (number / power) power (value % power) rest above (mod_below value power (pow_pos (8 * size))) in
    omega (arith, replaced number size value, split, both)

-- and has the value's lowest bytes, and the number's others
pub replaced_bytes : (number size value k : ℕ) → byte_of (number - number % 2 ^ (8 * size) + value % 2 ^ (8 * size)) k ≡
    (if nat_lt k size then byte_of value k else byte_of number k)
replaced_bytes number size value k = ap (λ n. byte_of n k) (replaced number size value) ∙ ⊎_elim below above (cases_lt k size)
  where
    power : ℕ
    power = 2 ^ (8 * size)

    now : ℕ
    now = value % power + number / power * power

    below : k < size → byte_of now k ≡ (if nat_lt k size then byte_of value k else byte_of number k)
    below h =
        let same : byte_of now k ≡ byte_of value k =
        low_byte (value % power) (number / power) size k h ∙ sym (ap (λ n. byte_of n k) (in_parts value size)
        ∙ low_byte (value % power) (value / power) size k h) in
        grind (arith, nat_tests, common_steps, same, h)

    above : size ≤ k → byte_of now k ≡ (if nat_lt k size then byte_of value k else byte_of number k)
    above h =
        let same : byte_of now k ≡ byte_of number k =
        high_byte (value % power) (number / power) size k (mod_below value power (pow_pos (8 * size))) h
        ∙ sym (ap (λ n. byte_of n k) (in_parts number size) ∙ high_byte (number % power) (number / power) size k
        (mod_below number power (pow_pos (8 * size))) h) in
        grind (arith, nat_tests, common_steps, same, h)

-- so eight bytes that are put change no more than the value's
pub put_lowest : (old new : ℕ → ℕ) (at size number value : ℕ) → size ≤ 8 → ((a : ℕ) → old a < 256)
    → ((k : ℕ) → byte_of number k ≡ (if nat_lt k size then byte_of value k else byte_of (number_of_bytes (bytes_at old at 8)) k))
    → ((k : ℕ) → new k ≡ (if in_range at 8 k then byte_of number (k - at) else old k))
    → (k : ℕ) → new k ≡ (if in_range at size k then byte_of value (k - at) else old k)
put_lowest old new at size number value few bytes made put k = ⊎_elim before from (cases_lt k at)
  where
    before : k < at → new k ≡ (if in_range at size k then byte_of value (k - at) else old k)
    before h = grind (arith, nat_tests, common_steps, put k, h)

    from : at ≤ k → new k ≡ (if in_range at size k then byte_of value (k - at) else old k)
    from h = ⊎_elim within past (cases_lt k (at + 8))
      where
        within : k < at + 8 → new k ≡ (if in_range at size k then byte_of value (k - at) else old k)
        within g =
            let there : at + (k - at) ≡ k = omega arith in
            let was = byte_is old at 8 (k - at) (omega arith) bytes ∙ ap old there in
            grind (arith, nat_tests, common_steps, put k, made (k - at), was, h, g)

        past : at + 8 ≤ k → new k ≡ (if in_range at size k then byte_of value (k - at) else old k)
        past g = grind (arith, nat_tests, common_steps, put k, h, g)
