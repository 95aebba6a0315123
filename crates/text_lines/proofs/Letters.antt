-- Words of letters: bytes that may stand outside a comment, begin none and are no blanks. Digits are letters.
use Rattle.std.proofs.Common.{◌≡◌, ◌∙◌, ℕ, ◌^◌, ◌≤◌, Bool, true, false, not, ◌&&◌, List, [], ◌∷◌, ◌++◌, length, Some, None, cond, refl, ap, sym, arith}
use Rattle.std.proofs.Common.{append-nil}
use Rattle.std.specs.Prelude.{nat_lt}
use Rattle.std.specs.List.{list_all}
use Rattle.std.proofs.lemmas.Bool.{and_parts, and_from, lt-ltb, ltb-true}
use Rattle.std.proofs.lemmas.Bool.Decides.{nat_tests}
use Rattle.std.proofs.lemmas.Grind.{common_steps}
use Rattle.text_lines.specs.Words.{is_blank, is_letter, is_plain, split_words}
use Rattle.text_lines.specs.Numbers.{digit_of, is_numeral, numeral_of, value_of}
use Rattle.text_lines.proofs.WordsOfText.{word_split}

-- a hexadecimal digit is a letter
hex_letter : (b : ℕ) → nat_lt (digit_of b) 16 ≡ true → is_letter b ≡ true
hex_letter b h = grind (arith, nat_tests, common_steps, h)

digit_letter : (base b : ℕ) → base ≤ 16 → nat_lt (digit_of b) base ≡ true → is_letter b ≡ true
digit_letter base b few h = hex_letter b (lt-ltb (digit_of b) 16 (omega (arith, few, ltb-true (digit_of b) base h)))

digits_letters : (base : ℕ) (digits : List ℕ) → base ≤ 16 → list_all (λ b. nat_lt (digit_of b) base) digits ≡ true → list_all is_letter digits ≡ true
digits_letters base [] few h = refl
digits_letters base (b ∷ digits) few h =
    let both = and_parts (nat_lt (digit_of b) base) (list_all (λ b. nat_lt (digit_of b) base) digits) h in
    and_from _ _ (digit_letter base b few both.0) (digits_letters base digits few both.1)

-- a numeral has digits alone
pub numeral_digits : (base : ℕ) (digits : List ℕ) (value : ℕ) → numeral_of base digits ≡ Some value → list_all (λ b. nat_lt (digit_of b) base) digits ≡ true
numeral_digits base digits value h = by_test (is_numeral base digits) (nat_lt (value_of base digits) (2 ^ 64)) refl h
  where
    by_test : (t u : Bool) → is_numeral base digits ≡ t → cond (t && u) (Some (value_of base digits)) None ≡ Some value
        → list_all (λ b. nat_lt (digit_of b) base) digits ≡ true
    by_test true u e k = (and_parts (nat_lt 0 (length digits)) (list_all (λ b. nat_lt (digit_of b) base) digits) e).1
    by_test false u e k = cc

pub numeral_letters : (base : ℕ) (digits : List ℕ) (value : ℕ) → base ≤ 16 → numeral_of base digits ≡ Some value → list_all is_letter digits ≡ true
numeral_letters base digits value few h = digits_letters base digits few (numeral_digits base digits value h)

-- letters are no blanks, and plain
pub letters_word : (word : List ℕ) → list_all is_letter word ≡ true → list_all (λ b. not (is_blank b)) word ≡ true
letters_word [] h = refl
letters_word (b ∷ word) h =
    let both = and_parts (is_letter b) (list_all is_letter word) h in
    and_from _ _ (and_parts (is_plain b) (not (is_blank b)) both.0).1 (letters_word word both.1)

pub letters_plain : (word rest : List ℕ) → list_all is_letter word ≡ true → list_all is_plain rest ≡ true → list_all is_plain (word ++ rest) ≡ true
letters_plain [] rest h k = k
letters_plain (b ∷ word) rest h k =
    let both = and_parts (is_letter b) (list_all is_letter word) h in
    and_from _ _ (and_parts (is_plain b) (not (is_blank b)) both.0).0 (letters_plain word rest both.1 k)

-- a word of letters, and the words after the blank after it
pub letters_split : (b : ℕ) (word rest : List ℕ) → list_all is_letter (b ∷ word) ≡ true → split_words ((b ∷ word) ++ 32 ∷ rest) ≡ (b ∷ word) ∷ split_words rest
letters_split b word rest h = word_split is_blank (b ∷ word) (32 ∷ rest) (omega arith, letters_word (b ∷ word) h) refl

pub letters_last : (b : ℕ) (word : List ℕ) → list_all is_letter (b ∷ word) ≡ true → split_words (b ∷ word) ≡ (b ∷ word) ∷ []
letters_last b word h = ap split_words (sym (append-nil (b ∷ word))) ∙ word_split is_blank (b ∷ word) [] (omega arith, letters_word (b ∷ word) h) tt
