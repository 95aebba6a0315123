-- Numbers of four and of eight bytes in front of others.
use Rattle.std.proofs.Common.{◌≡◌, ℕ, zero, suc, ◌+◌, ◌*◌, ◌^◌, ◌<◌, List, [], ◌∷◌, ◌++◌, length, drop, take, get_or, append_assoc, length-append, sym, ap, refl, ◌∙◌, arith}
use Rattle.std.proofs.lemmas.List.{drop-drop, drop-append-le, drop_all, take-append-le, take_all}
use Rattle.byteorder.specs.Endian.{big_number}
use Rattle.byteorder.specs.Numbers.{big_number-reads_back, length-bytes_high_first}
use Rattle.device_tree.specs.Words.{word_at}
use Rattle.host_tree.specs.Written.{word_bytes, double_word_bytes, words_bytes}

pub length-word : (x : ℕ) → length (word_bytes x) ≡ 4
unfolding word_bytes
length-word x = length-bytes_high_first 4 x

pub read-word : (x : ℕ) (rest : List ℕ) → x < 2 ^ 32 → big_number 4 (word_bytes x ++ rest) ≡ x
unfolding word_bytes
read-word x rest h = big_number-reads_back 4 x rest h

pub length-double : (x : ℕ) → length (double_word_bytes x) ≡ 8
unfolding double_word_bytes
length-double x = length-bytes_high_first 8 x

pub read-double : (x : ℕ) (rest : List ℕ) → x < 2 ^ 64 → big_number 8 (double_word_bytes x ++ rest) ≡ x
unfolding double_word_bytes
read-double x rest h = big_number-reads_back 8 x rest h

-- what comes behind a list
pub drop_front : (n : ℕ) (xs rest : List ℕ) → length xs ≡ n → drop n (xs ++ rest) ≡ rest
drop_front n xs rest e =
    let at = drop-append-le n xs rest (omega (arith, e)) in
    let none = drop_all n xs (omega (arith, e)) in
    at ∙ ap (λ (x : List ℕ). x ++ rest) none

pub take_front : (n : ℕ) (xs rest : List ℕ) → length xs ≡ n → take n (xs ++ rest) ≡ xs
take_front n xs rest e =
    let at = take-append-le n xs rest (omega (arith, e)) in
    let all = take_all n xs (omega (arith, e)) in
    at ∙ all

pub past : (m n : ℕ) (xs rest : List ℕ) → length xs ≡ m → drop (m + n) (xs ++ rest) ≡ drop n rest
past m n xs rest e = sym (drop-drop n m (xs ++ rest)) ∙ ap (λ (x : List ℕ). drop n x) (drop_front m xs rest e)

pub length-words : (xs : List ℕ) → length (words_bytes xs) ≡ 4 * length xs
length-words [] = refl
length-words (x ∷ xs) = omega (arith, length-append (word_bytes x) (words_bytes xs), length-word x, length-words xs)

-- one of some numbers
pub words_at : (xs : List ℕ) (k : ℕ) (rest : List ℕ) → k < length xs → get_or xs k 0 < 2 ^ 32 → word_at (words_bytes xs ++ rest) (4 * k) ≡ get_or xs k 0
words_at [] k rest h b = absurd (omega (arith, h))
words_at (x ∷ xs) zero rest h b = ap (λ (y : List ℕ). big_number 4 y) (append_assoc (word_bytes x) (words_bytes xs) rest) ∙ read-word x (words_bytes xs
    ++ rest) b
words_at (x ∷ xs) (suc k) rest h b =
    let place : 4 * suc k ≡ 4 + 4 * k = omega arith in
    ap (λ (n : ℕ). big_number 4 (drop n (words_bytes (x ∷ xs) ++ rest))) place
    ∙ ap (λ (y : List ℕ). big_number 4 (drop (4 + 4 * k) y)) (append_assoc (word_bytes x) (words_bytes xs) rest)
    ∙ ap (λ (y : List ℕ). big_number 4 y) (past 4 (4 * k) (word_bytes x) (words_bytes xs ++ rest) (length-word x))
    ∙ words_at xs k rest (omega (arith, h)) b
