-- Sixteen bytes at once as hexadecimal digits, lane by lane.
use Rattle.std.proofs.Common.{◌≡◌, ℕ, ◌+◌, ◌-◌, ◌*◌, ◌/◌, ◌%◌, ◌^◌, ◌<◌, ◌≤◌, ◌∙◌, eqb, cond, Bool, true, false, not, List, [], ◌∷◌, ◌++◌, map, length, get_or}
use Rattle.std.proofs.Common.{take, drop, replicate, zero, suc, Fits, w8, refl, sym, ap, ap₂, ⊎_elim, fold, div-le_self, length-drop, length-take-le, take-take}
use Rattle.std.proofs.Common.{take-append-drop, arith}
use Rattle.std.specs.Prelude.{nat_lt}
use Rattle.std.specs.List.{list_all, prefix_len}
use Rattle.std.specs.Int.{w64, from_be_bytes}
use Rattle.std.proofs.Math.Nat.{mul-le-mul_right}
use Rattle.std.proofs.lemmas.Nat.{pow-add, div-mul-add}
use Rattle.std.proofs.lemmas.Grind.{fold-append}
use Rattle.std.proofs.lemmas.Bool.{and_parts, cases_lt, cond-true, ltb-false, agree_below, agree_below_at, eqb-true, ltb-true}
use Rattle.std.proofs.lemmas.Simd.{map-map, mask_l-mod, first_set_mask_l}
use Rattle.std.proofs.lemmas.List.{get_or-take, length-map}
use Rattle.std.proofs.lemmas.List.Sums.{prefix_len_stops}
use lib.Lanes.{Each1, mask_l, pick_l, sel_l, top, zip2}
use Rattle.text_lines.specs.Hexadecimal.{first_set, nibble_of, nibbles_value}
use Rattle.text_lines.specs.Numbers.{BeginsNumeral, EndsDigits, digit_of, value_of}
use Rattle.text_lines.proofs.LinesRead.{list_all-front}
use Rattle.text_lines.proofs.Numerals.{begins_numeral, ends_here}

-- two tests that agree on all bytes
prefix_len-same : (p q : ℕ → Bool) (v : List ℕ) → Each1 (Fits w8) v → agree_below p q 256 ≡ true → prefix_len p v ≡ prefix_len q v
prefix_len-same p q [] fit same = refl
prefix_len-same p q (b ∷ v) fit same = ap₂ (λ t n. cond t (1 + n) 0) (agree_below_at p q 256 b same fit.0.fits) (prefix_len-same p q v fit.1 same)

-- the lowest bit of a mask of lanes that were computed lane by lane, one that is set where a byte is no digit
pub counted : (v z : List ℕ) (r : ℕ) (f : ℕ → ℕ) → length v ≡ 16 → Each1 (Fits w8) v → z ≡ map f v → r ≡ first_set (mask_l (map (top 7) z) % 2 ^ 64)
    → agree_below (λ b. not (top 7 (f b))) (λ b. nat_lt (digit_of b) 16) 256 ≡ true → r ≡ prefix_len (λ b. nat_lt (digit_of b) 16) v
counted v z r f long fit lanes found same =
    let stops : ℕ → Bool = λ b. top 7 (f b) in
    let mask : mask_l (map (top 7) z) % 2 ^ 64 ≡ mask_l (map stops v) = ap (λ l. mask_l l % 2 ^ 64) (ap (map (top 7)) lanes ∙ map-map (top 7) f v)
    ∙ mask_l-mod (map stops v) 64 (omega (arith, length-map v stops, long)) in
    found ∙ ap first_set mask ∙ first_set_mask_l stops v 16 long (omega arith) ∙ prefix_len-same (λ b. not (stops b)) (λ b. nat_lt (digit_of b) 16) v fit same

-- numbers that agree on all bytes
map-same : (f g : ℕ → ℕ) (v : List ℕ) → Each1 (Fits w8) v → agree_below (λ b. eqb (f b) (g b)) (λ b. true) 256 ≡ true → map f v ≡ map g v
map-same f g [] fit same = refl
map-same f g (b ∷ v) fit same = ap₂ (λ x xs. x ∷ xs) (eqb-true (f b) (g b) (agree_below_at (λ b. eqb (f b) (g b)) (λ b. true) 256 b same fit.0.fits))
    (map-same f g v fit.1 same)

-- one of two numbers, by lanes that were computed lane by lane
pub selected : (v z : List ℕ) (f : ℕ → ℕ) (n x y : ℕ) → length v ≡ n → z ≡ map f v
    → sel_l (map (top 7) z) (replicate n x) (replicate n y) ≡ map (λ b. cond (top 7 (f b)) x y) v
selected v z f n x y long lanes = ap (λ l. sel_l (map (top 7) l) (replicate n x) (replicate n y)) lanes ∙ each v n long
  where
    each : (v : List ℕ) (n : ℕ) → length v ≡ n → sel_l (map (top 7) (map f v)) (replicate n x) (replicate n y) ≡ map (λ b. cond (top 7 (f b)) x y) v
    each [] n long = ap (λ k. sel_l [] (replicate k x) (replicate k y)) (sym long)
    each (b ∷ v) n long = ap (λ k. sel_l (map (top 7) (map f (b ∷ v))) (replicate k x) (replicate k y)) (sym long)
        ∙ ap (λ l. cond (top 7 (f b)) x y ∷ l) (each v (length v) refl)

pub nibbles_are : (v z : List ℕ) (f : ℕ → ℕ) → Each1 (Fits w8) v → z ≡ map f v → agree_below (λ b. eqb (f b) (nibble_of b)) (λ b. true) 256 ≡ true
    → z ≡ map nibble_of v
nibbles_are v z f fit lanes same = lanes ∙ map-same f nibble_of v fit same

-- the operations on lanes of eight bits
abbrev plus : ℕ → ℕ → ℕ
plus a b = (a + b) % 256

abbrev times : ℕ → ℕ → ℕ
times a b = (a * b) % 256

pair : (n m : ℕ) → n < 16 → m < 16 → plus (times n 16) m ≡ 16 * n + m
pair n m h k = omega (arith, h, k)

-- sixteen digits, two in a byte
sixteen : (n0 n1 n2 n3 n4 n5 n6 n7 n8 n9 n10 n11 n12 n13 n14 n15 : ℕ) → n0 < 16 → n1 < 16 → n2 < 16 → n3 < 16 → n4 < 16 → n5 < 16 → n6 < 16 → n7 < 16 → n8 < 16
    → n9 < 16 → n10 < 16 → n11 < 16 → n12 < 16 → n13 < 16 → n14 < 16 → n15 < 16
    → from_be_bytes w64 (plus (times n0 16) n1 ∷ plus (times n2 16) n3 ∷ plus (times n4 16) n5 ∷ plus (times n6 16) n7 ∷ plus (times n8 16) n9 ∷ plus
    (times n10 16) n11 ∷ plus (times n12 16) n13 ∷ plus (times n14 16) n15 ∷ []) ≡
    (16 * (16 * (16 * (16 * (16 * (16 * (16 * (16 * (16 * (16 * (16 * (16 * (16 * (16 * (16 * (16 * 0 + n0) + n1) + n2) + n3) + n4) + n5) + n6) + n7) + n8)
    + n9) + n10) + n11) + n12) + n13) + n14) + n15)
sixteen n0 n1 n2 n3 n4 n5 n6 n7 n8 n9 n10 n11 n12 n13 n14 n15 h0 h1 h2 h3 h4 h5 h6 h7 h8 h9 h10 h11 h12 h13 h14 h15 =
    let p0 = pair n0 n1 h0 h1 in
    let p1 = pair n2 n3 h2 h3 in
    let p2 = pair n4 n5 h4 h5 in
    let p3 = pair n6 n7 h6 h7 in
    let p4 = pair n8 n9 h8 h9 in
    let p5 = pair n10 n11 h10 h11 in
    let p6 = pair n12 n13 h12 h13 in
    let p7 = pair n14 n15 h14 h15 in
    rw (p0, p1, p2, p3, p4, p5, p6, p7) (omega arith)

nibble_small : (b : ℕ) → nibble_of b < 16
nibble_small b = by_test (nat_lt (digit_of b) 16) refl
  where
    by_test : (t : Bool) → nat_lt (digit_of b) 16 ≡ t → cond t (digit_of b) (b % 16) < 16
    by_test true h = ltb-true (digit_of b) 16 h
    by_test false h = omega arith

-- the elements of a list of so many, one by one
abbrev firsts : ℕ → List ℕ → List ℕ
firsts zero v = []
firsts (suc n) v = get_or v 0 0 ∷ firsts n (drop 1 v)

firsts_are : (n : ℕ) (v : List ℕ) → length v ≡ n → v ≡ firsts n v
firsts_are zero [] long = refl
firsts_are zero (b ∷ v) long = absurd (omega (arith, long))
firsts_are (suc n) [] long = absurd (omega (arith, long))
firsts_are (suc n) (b ∷ v) long = ap (λ l. b ∷ l) (firsts_are n v (omega (arith, long)))

-- digits in lanes, put two in a byte
abbrev in_pairs : List ℕ → List ℕ
in_pairs ns = zip2 plus (zip2 times (pick_l 0 (ns ++ ns) (0 ∷ 2 ∷ 4 ∷ 6 ∷ 8 ∷ 10 ∷ 12 ∷ 14 ∷ [])) (replicate 8 16))
    (pick_l 0 (ns ++ ns) (1 ∷ 3 ∷ 5 ∷ 7 ∷ 9 ∷ 11 ∷ 13 ∷ 15 ∷ []))

together : (b0 b1 b2 b3 b4 b5 b6 b7 b8 b9 b10 b11 b12 b13 b14 b15 : ℕ) → from_be_bytes w64
    (in_pairs (map nibble_of (b0 ∷ b1 ∷ b2 ∷ b3 ∷ b4 ∷ b5 ∷ b6 ∷ b7 ∷ b8 ∷ b9 ∷ b10 ∷ b11 ∷ b12 ∷ b13 ∷ b14 ∷ b15 ∷ []))) ≡ nibbles_value
    (b0 ∷ b1 ∷ b2 ∷ b3 ∷ b4 ∷ b5 ∷ b6 ∷ b7 ∷ b8 ∷ b9 ∷ b10 ∷ b11 ∷ b12 ∷ b13 ∷ b14 ∷ b15 ∷ [])
together b0 b1 b2 b3 b4 b5 b6 b7 b8 b9 b10 b11 b12 b13 b14 b15 = sixteen (nibble_of b0) (nibble_of b1) (nibble_of b2) (nibble_of b3) (nibble_of b4)
    (nibble_of b5) (nibble_of b6) (nibble_of b7) (nibble_of b8) (nibble_of b9) (nibble_of b10) (nibble_of b11) (nibble_of b12) (nibble_of b13) (nibble_of b14)
    (nibble_of b15) (nibble_small b0) (nibble_small b1) (nibble_small b2) (nibble_small b3) (nibble_small b4) (nibble_small b5) (nibble_small b6)
    (nibble_small b7) (nibble_small b8) (nibble_small b9) (nibble_small b10) (nibble_small b11) (nibble_small b12) (nibble_small b13) (nibble_small b14)
    (nibble_small b15)

pub packed : (v ns : List ℕ) (r : ℕ) → length v ≡ 16 → ns ≡ map nibble_of v → r ≡ from_be_bytes w64 (in_pairs ns) → r ≡ nibbles_value v
packed v ns r long are is =
    let one_by_one = firsts_are 16 v long in
    is ∙ ap (λ l. from_be_bytes w64 (in_pairs l)) (are ∙ ap (map nibble_of) one_by_one)
    ∙ together (get_or v 0 0) (get_or (drop 1 v) 0 0) (get_or (drop 1 (drop 1 v)) 0 0) (get_or (drop 1 (drop 1 (drop 1 v))) 0 0)
    (get_or (drop 1 (drop 1 (drop 1 (drop 1 v)))) 0 0) (get_or (drop 1 (drop 1 (drop 1 (drop 1 (drop 1 v))))) 0 0)
    (get_or (drop 1 (drop 1 (drop 1 (drop 1 (drop 1 (drop 1 v)))))) 0 0) (get_or (drop 1 (drop 1 (drop 1 (drop 1 (drop 1 (drop 1 (drop 1 v))))))) 0 0)
    (get_or (drop 1 (drop 1 (drop 1 (drop 1 (drop 1 (drop 1 (drop 1 (drop 1 v)))))))) 0 0)
    (get_or (drop 1 (drop 1 (drop 1 (drop 1 (drop 1 (drop 1 (drop 1 (drop 1 (drop 1 v))))))))) 0 0)
    (get_or (drop 1 (drop 1 (drop 1 (drop 1 (drop 1 (drop 1 (drop 1 (drop 1 (drop 1 (drop 1 v)))))))))) 0 0)
    (get_or (drop 1 (drop 1 (drop 1 (drop 1 (drop 1 (drop 1 (drop 1 (drop 1 (drop 1 (drop 1 (drop 1 v))))))))))) 0 0)
    (get_or (drop 1 (drop 1 (drop 1 (drop 1 (drop 1 (drop 1 (drop 1 (drop 1 (drop 1 (drop 1 (drop 1 (drop 1 v)))))))))))) 0 0)
    (get_or (drop 1 (drop 1 (drop 1 (drop 1 (drop 1 (drop 1 (drop 1 (drop 1 (drop 1 (drop 1 (drop 1 (drop 1 (drop 1 v))))))))))))) 0 0)
    (get_or (drop 1 (drop 1 (drop 1 (drop 1 (drop 1 (drop 1 (drop 1 (drop 1 (drop 1 (drop 1 (drop 1 (drop 1 (drop 1 (drop 1 v)))))))))))))) 0 0)
    (get_or (drop 1 (drop 1 (drop 1 (drop 1 (drop 1 (drop 1 (drop 1 (drop 1 (drop 1 (drop 1 (drop 1 (drop 1 (drop 1 (drop 1 (drop 1 v))))))))))))))) 0 0)
    ∙ ap nibbles_value (sym one_by_one)

-- a digit behind others
abbrev step : ℕ → ℕ → ℕ
step value b = 16 * value + nibble_of b

-- four bits for each byte
abbrev room : List ℕ → ℕ
room bytes = 2 ^ (4 * length bytes)

room-more : (b : ℕ) (bytes : List ℕ) → room (b ∷ bytes) ≡ 16 * room bytes
room-more b bytes = let four : 4 * suc (length bytes) ≡ 4 + 4 * length bytes = omega arith in ap (λ n. 2 ^ n) four ∙ pow-add 2 4 (4 * length bytes)

product : (value digit most : ℕ) → (16 * value + digit) * most ≡ value * (16 * most) + digit * most
product value digit most = grind arith

-- bytes behind a value, and what they are worth alone
behind : (value : ℕ) (bytes : List ℕ) → fold step value bytes ≡ value * room bytes + nibbles_value bytes
behind value [] = omega arith
behind value (b ∷ bytes) =
    let first = behind (step value b) bytes in
    let alone = behind (step 0 b) bytes in
    let more : value * room (b ∷ bytes) ≡ value * (16 * room bytes) = ap (λ n. value * n) (room-more b bytes) in
    let one = product value (nibble_of b) (room bytes) in
    let none = product 0 (nibble_of b) (room bytes) in
    omega (arith, first, alone, more, one, none)

-- which is less than their room
fits_room : (bytes : List ℕ) → nibbles_value bytes < room bytes
fits_room [] = omega arith
fits_room (b ∷ bytes) =
    let alone = behind (step 0 b) bytes in
    let none = product 0 (nibble_of b) (room bytes) in
    let most : nibble_of b * room bytes ≤ 15 * room bytes = mul-le-mul_right (room bytes) (let small = nibble_small b in omega arith) in
    omega (arith, alone, none, most, room-more b bytes, fits_room bytes)

-- the first bytes of sixteen
front_value : (bytes : List ℕ) (len : ℕ) → length bytes ≡ 16 → len ≤ 16 → nibbles_value bytes / 2 ^ (64 - 4 * len) ≡ nibbles_value (take len bytes)
front_value bytes len long few =
    let rest = drop len bytes in
    let size : 64 - 4 * len ≡ 4 * length rest = omega (arith, length-drop len bytes, long) in
    let whole : nibbles_value bytes ≡ nibbles_value (take len bytes) * room rest + nibbles_value rest =
    ap nibbles_value (sym (take-append-drop len bytes)) ∙ fold-append step 0 (take len bytes) rest ∙ behind (nibbles_value (take len bytes)) rest in
    ap₂ (λ n m. n / 2 ^ m) whole size ∙ div-mul-add (nibbles_value (take len bytes)) (room rest) (nibbles_value rest) (fits_room rest)

-- digits are worth what their values are
worth : (value : ℕ) (digits : List ℕ) → list_all (λ b. nat_lt (digit_of b) 16) digits ≡ true
    → fold step value digits ≡ fold (λ v b. 16 * v + digit_of b) value digits
worth value [] all = refl
worth value (b ∷ digits) all =
    let both = and_parts (nat_lt (digit_of b) 16) (list_all (λ b. nat_lt (digit_of b) 16) digits) all in
    ap (λ n. fold step (16 * value + n) digits) (cond-true (nat_lt (digit_of b) 16) (digit_of b) (b % 16) both.0)
    ∙ worth (16 * value + digit_of b) digits both.1

-- the digits before the first byte that is none
front_digits : (base : ℕ) (text : List ℕ) (len : ℕ) → base ≡ 16 → len ≡ prefix_len (λ b. nat_lt (digit_of b) 16) (take 16 text) → len ≤ 16
    → list_all (λ b. nat_lt (digit_of b) base) (take len text) ≡ true
front_digits base text len sixteen is few =
    rw sixteen (ap (list_all (λ b. nat_lt (digit_of b) 16)) (sym (take-take len 16 text few))
    ∙ list_all-front (λ b. nat_lt (digit_of b) 16) (take 16 text) len (omega (arith, is)))

leading_value : (base : ℕ) (text : List ℕ) (len all : ℕ) → base ≡ 16 → len ≡ prefix_len (λ b. nat_lt (digit_of b) 16) (take 16 text) → len ≤ 16
    → 16 ≤ length text → all ≡ nibbles_value (take 16 text) → all / 2 ^ (64 - 4 * len) ≡ value_of base (take len text)
leading_value base text len all sixteen is few long value =
    let digits : list_all (λ b. nat_lt (digit_of b) 16) (take len text) ≡ true = front_digits 16 text len refl is few in
    rw sixteen (ap (λ n. n / 2 ^ (64 - 4 * len)) value ∙ front_value (take 16 text) len (length-take-le 16 text long) few
    ∙ ap nibbles_value (take-take len 16 text few) ∙ worth 0 (take len text) digits)

-- a byte that is no digit stands behind fewer than sixteen
pub ends_short : (base : ℕ) (text : List ℕ) (len : ℕ) → base ≡ 16 → len ≡ prefix_len (λ b. nat_lt (digit_of b) 16) (take 16 text) → len < 16 → 16 ≤ length text
    → EndsDigits base (drop len text)
ends_short base text len sixteen is few long =
    let test : ℕ → Bool = λ b. nat_lt (digit_of b) 16 in
    let size : length (take 16 text) ≡ 16 = length-take-le 16 text long in
    let stops : test (get_or (take 16 text) (prefix_len test (take 16 text)) 0) ≡ false = prefix_len_stops test (take 16 text) 0
    (omega (arith, is, few, size)) in
    let at : get_or (take 16 text) (prefix_len test (take 16 text)) 0 ≡ get_or text len 0 = ap (λ k. get_or (take 16 text) k 0) (sym is)
    ∙ get_or-take 16 text len 0 few in
    let large = ltb-false (digit_of (get_or text len 0)) 16 (ap test (sym at) ∙ stops) in
    ends_here base text len (digit_of (get_or text len 0)) (omega (arith, few, long)) refl (omega (arith, sixteen, large))

-- one to sixteen digits, before a byte that is none
pub begins_hexadecimal : (base : ℕ) (text : List ℕ) (len all : ℕ) → base ≡ 16 → len ≡ prefix_len (λ b. nat_lt (digit_of b) 16) (take 16 text) → len ≤ 16
    → (len ≡ 0 → ⊥) → 16 ≤ length text → all ≡ nibbles_value (take 16 text) → all < 2 ^ 64 → (len ≡ 16 → EndsDigits base (drop 16 text))
    → BeginsNumeral base text (all / 2 ^ (64 - 4 * len)) (drop len text) × (len ≤ length text)
begins_hexadecimal base text len all sixteen is few some long value fits last =
    let within : len ≤ length text = omega (arith, few, long) in
    let ends : EndsDigits base (drop len text) = ⊎_elim (λ short. ends_short base text len sixteen is short long)
    (λ full. let e : len ≡ 16 = omega (arith, full, few) in rw e (last e)) (cases_lt len 16) in (
      begins_numeral base text len (all / 2 ^ (64 - 4 * len)) within some (leading_value base text len all sixteen is few long value)
          (omega (arith, fits, div-le_self all (2 ^ (64 - 4 * len)))) (front_digits base text len sixteen is few) ends,
      within,
    )
