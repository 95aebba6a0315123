-- The bytes of a number, and the number in bytes.
use Rattle.std.proofs.Common.{◌≡◌, ℕ, zero, suc, ◌+◌, ◌*◌, ◌/◌, ◌%◌, ◌^◌, ◌<◌, ◌≤◌, List, [], ◌∷◌, ◌++◌, length, take, drop, slice_index, refl, sym, ap, ◌∙◌}
use Rattle.std.proofs.Common.{arith}
use Rattle.std.proofs.Math.Nat.{div-div-eq-div-mul, pow-succ'}
use Rattle.std.proofs.lemmas.List.{take_all, take-append-drop, length-take-le}
use Rattle.std.specs.Int.{byte_at, bytes_low_first}
use Rattle.byteorder.specs.Endian.{little_from, little_number}
use Rattle.byteorder.specs.Numbers.{little_from-cons, little_from-lt, little_number-reads_back}
use Rattle.certificate_format.specs.Spelling.{u32_bytes, u64_bytes}

-- each is a byte
abbrev pub AreBytes : List ℕ → Type 0
AreBytes bytes = (i : ℕ) → slice_index bytes i < 256

pub bytes_tail : (b : ℕ) (bytes : List ℕ) → AreBytes (b ∷ bytes) → AreBytes bytes
bytes_tail b bytes h = λ i. h (suc i)

pub bytes_drop : (n : ℕ) (bytes : List ℕ) → AreBytes bytes → AreBytes (drop n bytes)
bytes_drop zero bytes h = h
bytes_drop (suc n) [] h = h
bytes_drop (suc n) (b ∷ bytes) h = bytes_drop n bytes (bytes_tail b bytes h)

first_or_later : (n b : ℕ) (bytes : List ℕ) → AreBytes (b ∷ bytes) → AreBytes (take n bytes) → (i : ℕ) → slice_index (b ∷ take n bytes) i < 256
first_or_later n b bytes h rest zero = h 0
first_or_later n b bytes h rest (suc i) = rest i

pub bytes_take : (n : ℕ) (bytes : List ℕ) → AreBytes bytes → AreBytes (take n bytes)
bytes_take zero bytes h = λ i. omega arith
bytes_take (suc n) [] h = h
bytes_take (suc n) (b ∷ bytes) h = λ i. first_or_later n b bytes h (bytes_take n bytes (bytes_tail b bytes h)) i

byte_at-shift : (i x : ℕ) → byte_at (suc i) x ≡ byte_at i (x / 256)
byte_at-shift zero x = refl
byte_at-shift (suc i) x = ap (λ (n : ℕ). n % 256) (ap (λ (p : ℕ). x / p) (pow-succ' 256 (suc i)) ∙ sym (div-div-eq-div-mul x 256 (256 ^ suc i)))

bytes_low_first-shift : (i k x : ℕ) → bytes_low_first (suc i) k x ≡ bytes_low_first i k (x / 256)
bytes_low_first-shift i zero x = refl
bytes_low_first-shift i (suc k) x = rw (byte_at-shift i x, bytes_low_first-shift (suc i) k x) refl

-- the bytes of the number in some bytes are those bytes
bytes_of_number : (n : ℕ) (bytes : List ℕ) → AreBytes bytes → n ≤ length bytes → bytes_low_first 0 n (little_from 0 n bytes) ≡ take n bytes
bytes_of_number zero bytes h long = refl
bytes_of_number (suc n) [] h long = absurd (omega arith)
bytes_of_number (suc n) (b ∷ bytes) h long =
    let rest = little_from-cons 0 n b bytes in
    let first = h 0 in
    let low : (b + 256 * little_from 0 n bytes) % 256 ≡ b = omega arith in
    let high : (b + 256 * little_from 0 n bytes) / 256 ≡ little_from 0 n bytes = omega arith in
    let again = bytes_of_number n bytes (bytes_tail b bytes h) (omega arith) in
    rw (rest, low, bytes_low_first-shift 0 n (b + 256 * little_from 0 n bytes), high, again) refl

-- two lists with fronts of one length
pub same_fronts : (xs ys a b : List ℕ) → length xs ≡ length ys → xs ++ a ≡ ys ++ b → (xs ≡ ys) × (a ≡ b)
same_fronts [] [] a b h e = (refl, e)
same_fronts [] (y ∷ ys) a b h e = absurd (omega arith)
same_fronts (x ∷ xs) [] a b h e = absurd (omega arith)
same_fronts (x ∷ xs) (y ∷ ys) a b h e =
    let first : x ≡ y = cc in
    let rest : xs ++ a ≡ ys ++ b = cc in
    let same = same_fronts xs ys a b (omega arith) rest in
    (cc (first, same.0), same.1)

pub length-u32_bytes : (n : ℕ) → length (u32_bytes n) ≡ 4
unfolding u32_bytes
length-u32_bytes n = refl

pub length-u64_bytes : (n : ℕ) → length (u64_bytes n) ≡ 8
unfolding u64_bytes
length-u64_bytes n = refl

pub u32_bytes-number : (bytes : List ℕ) → AreBytes bytes → 4 ≤ length bytes → u32_bytes (little_number 4 bytes) ≡ take 4 bytes
unfolding u32_bytes
u32_bytes-number bytes h long = bytes_of_number 4 bytes h long

-- four bytes are those of the number that they hold
pub u32_whole : (bytes : List ℕ) → AreBytes bytes → length bytes ≡ 4 → bytes ≡ u32_bytes (little_number 4 bytes)
u32_whole bytes h e = sym (u32_bytes-number bytes h (omega arith) ∙ take_all 4 bytes (omega arith))

-- the four bytes in front, and what is left
pub u32_front : (bytes front rest : List ℕ) (n : ℕ) → AreBytes bytes → 4 ≤ length bytes → front ≡ take 4 bytes → rest ≡ drop 4 bytes → n ≡ little_number 4 front
    → bytes ≡ u32_bytes n ++ rest
u32_front bytes front rest n h long is_front is_rest is_n =
    let long_enough : length (take 4 bytes) ≡ 4 = length-take-le 4 bytes long in
    let whole : take 4 bytes ≡ u32_bytes (little_number 4 (take 4 bytes)) = u32_whole (take 4 bytes) (bytes_take 4 bytes h) long_enough in
    let number : n ≡ little_number 4 (take 4 bytes) = is_n ∙ ap (little_number 4) is_front in
    sym (take-append-drop 4 bytes) ∙ ap (λ (f : List ℕ). f ++ drop 4 bytes) (whole ∙ ap u32_bytes (sym number))
    ∙ ap (λ (r : List ℕ). u32_bytes n ++ r) (sym is_rest)

pub u64_bytes-number : (bytes : List ℕ) → AreBytes bytes → 8 ≤ length bytes → u64_bytes (little_number 8 bytes) ≡ take 8 bytes
unfolding u64_bytes
u64_bytes-number bytes h long = bytes_of_number 8 bytes h long

-- and so are eight
pub u64_whole : (bytes : List ℕ) → AreBytes bytes → length bytes ≡ 8 → bytes ≡ u64_bytes (little_number 8 bytes)
u64_whole bytes h e = sym (u64_bytes-number bytes h (omega arith) ∙ take_all 8 bytes (omega arith))

pub number-u32_bytes : (n : ℕ) (rest : List ℕ) → n < 2 ^ 32 → little_number 4 (u32_bytes n ++ rest) ≡ n
unfolding u32_bytes
number-u32_bytes n rest h = little_number-reads_back 4 n rest h

pub number-u64_bytes : (n : ℕ) (rest : List ℕ) → n < 2 ^ 64 → little_number 8 (u64_bytes n ++ rest) ≡ n
unfolding u64_bytes
number-u64_bytes n rest h = little_number-reads_back 8 n rest h

pub number_lt32 : (bytes : List ℕ) → AreBytes bytes → little_number 4 bytes < 2 ^ 32
number_lt32 bytes h = little_from-lt 0 4 bytes h

pub number_lt64 : (bytes : List ℕ) → AreBytes bytes → little_number 8 bytes < 2 ^ 64
number_lt64 bytes h = little_from-lt 0 8 bytes h

-- four bytes spell one number, and so do eight
pub same_u32 : (x y : ℕ) (a b : List ℕ) → x < 2 ^ 32 → y < 2 ^ 32 → u32_bytes x ++ a ≡ u32_bytes y ++ b → (x ≡ y) × (a ≡ b)
same_u32 x y a b hx hy e = (
  sym (number-u32_bytes x a hx) ∙ ap (little_number 4) e ∙ number-u32_bytes y b hy,
  (same_fronts (u32_bytes x) (u32_bytes y) a b (length-u32_bytes x ∙ sym (length-u32_bytes y)) e).1,
)

pub same_u64 : (x y : ℕ) (a b : List ℕ) → x < 2 ^ 64 → y < 2 ^ 64 → u64_bytes x ++ a ≡ u64_bytes y ++ b → (x ≡ y) × (a ≡ b)
same_u64 x y a b hx hy e = (
  sym (number-u64_bytes x a hx) ∙ ap (little_number 8) e ∙ number-u64_bytes y b hy,
  (same_fronts (u64_bytes x) (u64_bytes y) a b (length-u64_bytes x ∙ sym (length-u64_bytes y)) e).1,
)
