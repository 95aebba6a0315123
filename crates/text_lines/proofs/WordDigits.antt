-- The sixteen digits of a number, two for each of its bytes, lane by lane.
use Rattle.std.proofs.Common.{◌≡◌, ℕ, ◌+◌, ◌-◌, ◌/◌, ◌%◌, ◌^◌, ◌≤◌, ◌∙◌, eqb, cond, ltb, true, ◌&&◌, List, [], ◌∷◌, ◌++◌, map, length, take, replicate, zero}
use Rattle.std.proofs.Common.{suc, Fits, w8, bit_and, refl, sym, ap, ap₂, append_assoc, arith}
use Rattle.std.proofs.lemmas.Bool.{and_parts, agree_below, agree_below_at, eqb-true}
use Rattle.std.proofs.lemmas.Simd.{zip2_of_maps, zip2_splat, put_chunk_whole}
use Rattle.std.proofs.lemmas.Slice.{take-put_mid}
use borrow.Rule.Slice.PartMut.{mid_of, put_mid}
use lib.Lanes.{Each1, digits_l, number_l, put_chunk, pick_l, sel_l, top, zip2}
use Rattle.text_lines.specs.Written.{hex, hex_digit}
use Rattle.text_lines.proofs.Hexadecimals.{selected}
use Rattle.text_lines.proofs.Buffered.{length-part, take-read}

-- two digits for each byte, those of the last byte first
abbrev pairs : List ℕ → List ℕ
pairs [] = []
pairs (b ∷ bytes) = pairs bytes ++ hex_digit (b / 16) ∷ hex_digit (b % 16) ∷ []

abbrev twice : ℕ → ℕ
twice zero = zero
twice (suc k) = suc (suc (twice k))

-- the digits of a number are those of its bytes
pairs_are : (k v : ℕ) → pairs (digits_l 256 k v) ≡ hex (twice k) v
pairs_are zero v = refl
pairs_are (suc k) v =
    let rest : v / 256 ≡ v / 16 / 16 = omega arith in
    let high : v % 256 / 16 ≡ v / 16 % 16 = omega arith in
    let low : v % 256 % 16 ≡ v % 16 = omega arith in
    ap₂ ◌++◌ (pairs_are k (v / 256) ∙ ap (hex (twice k)) rest) (ap₂ (λ a b. hex_digit a ∷ hex_digit b ∷ []) high low)
    ∙ sym (append_assoc (hex (twice k) (v / 16 / 16)) (hex_digit (v / 16 % 16) ∷ []) (hex_digit (v % 16) ∷ []))

bytes_fit : (k v : ℕ) → Each1 (Fits w8) (digits_l 256 k v)
bytes_fit zero v = tt
bytes_fit (suc k) v = (record { fits = omega arith }, bytes_fit k (v / 256))

-- two numbers for each byte
abbrev alternate : (ℕ → ℕ) → (ℕ → ℕ) → List ℕ → List ℕ
alternate f g [] = []
alternate f g (b ∷ bytes) = alternate f g bytes ++ f b ∷ g b ∷ []

-- which are its digits, if they are for each byte
same_digits : (f g : ℕ → ℕ) (bytes : List ℕ) → Each1 (Fits w8) bytes → agree_below (λ b. eqb (f b) (hex_digit (b / 16)) && eqb (g b) (hex_digit (b % 16)))
    (λ b. true) 256 ≡ true → alternate f g bytes ≡ pairs bytes
same_digits f g [] fit same = refl
same_digits f g (b ∷ bytes) fit same =
    let both = and_parts _ _ (agree_below_at (λ b. eqb (f b) (hex_digit (b / 16)) && eqb (g b) (hex_digit (b % 16))) (λ b. true) 256 b same fit.0.fits) in
    ap₂ ◌++◌ (same_digits f g bytes fit.1 same) (ap₂ (λ x y. x ∷ y ∷ []) (eqb-true (f b) (hex_digit (b / 16)) both.0)
    (eqb-true (g b) (hex_digit (b % 16)) both.1))

-- the operations on lanes of eight bits
abbrev plus : ℕ → ℕ → ℕ
plus a b = (a + b) % 256

abbrev down : ℕ → ℕ → ℕ
down a b = a / 2 ^ b

abbrev less : ℕ → ℕ → ℕ
less a b = cond (ltb a b) 255 0

-- the high and the low four bits of each of eight bytes, those of the last byte first
abbrev halves : List ℕ → List ℕ
halves bytes = pick_l 0 (zip2 down bytes (replicate 8 4) ++ zip2 bit_and bytes (replicate 8 15))
    (7 ∷ 15 ∷ 6 ∷ 14 ∷ 5 ∷ 13 ∷ 4 ∷ 12 ∷ 3 ∷ 11 ∷ 2 ∷ 10 ∷ 1 ∷ 9 ∷ 0 ∷ 8 ∷ [])

-- four bits as a digit
abbrev digit_l : ℕ → ℕ
digit_l n = plus (cond (top 7 (less n 10)) 48 87) n

pub digits_are : (v : ℕ) (r : List ℕ) →
    let nibbles = halves (digits_l 256 8 (number_l (2 ^ 64) (v ∷ []))) in
    r ≡ zip2 plus (sel_l (map (top 7) (zip2 less nibbles (replicate 16 10))) (replicate 16 48) (replicate 16 87)) nibbles → r ≡ hex 16 v
digits_are v r is =
    let lane = number_l (2 ^ 64) (v ∷ []) in
    let alone : lane ≡ v = omega arith in
    let nibbles = halves (digits_l 256 8 lane) in
    let zeros = selected nibbles (zip2 less nibbles (replicate 16 10)) (λ n. less n 10) 16 48 87 refl (zip2_splat less nibbles 16 10 refl) in
    let digits : r ≡ map digit_l nibbles = is ∙ zip2_of_maps plus (λ n. cond (top 7 (less n 10)) 48 87) (λ n. n) nibbles zeros refl in
    digits ∙ same_digits (λ b. digit_l (down b 4)) (λ b. digit_l (bit_and b 15)) (digits_l 256 8 lane) (bytes_fit 8 lane) refl ∙ pairs_are 8 lane
    ∙ ap (hex 16) alone

-- lanes that are stored behind what was there
pub stored : (all lanes : List ℕ) (len : ℕ) → length lanes ≡ 16 → len + 16 ≤ length all
    → take (len + 16) (put_mid len (len + 16 - len) all (put_chunk 0 (mid_of len (len + 16 - len) all) lanes)) ≡ take len all ++ lanes
stored all lanes len long inside =
    let whole : put_chunk 0 (mid_of len (len + 16 - len) all) lanes ≡ lanes = put_chunk_whole (mid_of len (len + 16 - len) all) lanes
    (length-part all len 16 inside ∙ sym long) in
    ap (λ l. take (len + 16) (put_mid len (len + 16 - len) all l)) whole ∙ take-put_mid len (len + 16 - len) all lanes (len + 16) (omega (arith, long))
    (omega (arith, inside))

-- the first of them
pub stored_front :
    (all lanes : List ℕ) (len count : ℕ) → length lanes ≡ 16 → count ≤ 16 → len + 16 ≤ length all
    → take (len + count) (put_mid len (len + 16 - len) all (put_chunk 0 (mid_of len (len + 16 - len) all) lanes)) ≡ take len all ++ take count lanes
stored_front all lanes len count long few inside =
    let whole : put_chunk 0 (mid_of len (len + 16 - len) all) lanes ≡ lanes = put_chunk_whole (mid_of len (len + 16 - len) all) lanes
    (length-part all len 16 inside ∙ sym long) in
    ap (λ l. take (len + count) (put_mid len (len + 16 - len) all l)) whole ∙ take-read all lanes _ len count (omega (arith, inside)) (omega (arith, long, few))
