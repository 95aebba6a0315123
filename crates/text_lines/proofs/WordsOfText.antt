-- The words of a text are those between its blanks.
use Rattle.std.proofs.Common.{◌≡◌, ℕ, ◌∙◌, Bool, true, false, not, cond, List, [], ◌∷◌, ◌++◌, refl, ap, sym, arith}
use Rattle.std.specs.List.{list_all}
use Rattle.std.proofs.lemmas.Bool.{and_parts, and_from, both_ways, not-true, not_from_false, cond-true, cond-false}
use Rattle.text_lines.specs.Words.{joined, split_by, IsWord, EndsWord, HasWords}
use Rattle.text_lines.proofs.Splitting.{joined_alone}

-- a blank more at the front
HasWords-blank : (p : ℕ → Bool) (b : ℕ) (text : List ℕ) (words : List (List ℕ)) → p b ≡ true → HasWords p text words → HasWords p (b ∷ text) words
HasWords-blank p b text [] blank h = and_from _ _ blank h
HasWords-blank p b text (word ∷ words) blank h = (h.0, b ∷ h.1, h.2, and_from _ _ blank h.3, h.4, ap (λ xs. b ∷ xs) h.5, h.6)

one_letter : (p : ℕ → Bool) (b : ℕ) → p b ≡ false → IsWord p (b ∷ [])
one_letter p b letter = (omega arith, and_from _ _ (not_from_false _ letter) refl)

-- a byte more at the front of the first word
longer : (p : ℕ → Bool) (b next : ℕ) (rest word blanks after : List ℕ) (words : List (List ℕ)) → p b ≡ false → p next ≡ false → IsWord p word
    → list_all p blanks ≡ true → EndsWord p after → next ∷ rest ≡ blanks ++ (word ++ after) → HasWords p after words
    → HasWords p (b ∷ next ∷ rest) ((b ∷ word) ∷ words)
longer p b next rest word [] after words letter also is blank ends e more =
    ((omega arith, and_from _ _ (not_from_false _ letter) is.1), [], after, refl, ends, ap (λ xs. b ∷ xs) e, more)
longer p b next rest word (c ∷ blanks) after words letter also is blank ends e more =
    let same : next ≡ c = cc in
    absurd (both_ways (p next) also (ap p same ∙ (and_parts (p c) (list_all p blanks) blank).0))

joined_words : (p : ℕ → Bool) (b next : ℕ) (rest word : List ℕ) (words : List (List ℕ)) (t : Bool) → p next ≡ t → p b ≡ false
    → HasWords p (next ∷ rest) (word ∷ words) → HasWords p (b ∷ next ∷ rest) (cond t ((b ∷ []) ∷ word ∷ words) ((b ∷ word) ∷ words))
joined_words p b next rest word words true e letter h = (one_letter p b letter, [], next ∷ rest, refl, e, refl, h)
joined_words p b next rest word words false e letter h = longer p b next rest word h.1 h.2 words letter e h.0 h.3 h.4 h.5 h.6

-- a byte of a word more at the front
HasWords-joined : (p : ℕ → Bool) (b : ℕ) (text : List ℕ) (words : List (List ℕ)) → p b ≡ false → HasWords p text words
    → HasWords p (b ∷ text) (joined p b text words)
HasWords-joined p b [] words letter h = (one_letter p b letter, [], [], refl, tt, refl, h)
HasWords-joined p b (next ∷ rest) [] letter h = (one_letter p b letter, [], next ∷ rest, refl, (and_parts (p next) (list_all p rest) h).0, refl, h)
HasWords-joined p b (next ∷ rest) (word ∷ words) letter h = joined_words p b next rest word words (p next) refl letter h

split_one : (p : ℕ → Bool) (b : ℕ) (text : List ℕ) (t : Bool) → p b ≡ t → HasWords p text (split_by p text)
    → HasWords p (b ∷ text) (cond t (split_by p text) (joined p b text (split_by p text)))
split_one p b text true e h = HasWords-blank p b text (split_by p text) e h
split_one p b text false e h = HasWords-joined p b text (split_by p text) e h

pub split_by-has : (p : ℕ → Bool) (text : List ℕ) → HasWords p text (split_by p text)
split_by-has p [] = refl
split_by-has p (b ∷ text) = split_one p b text (p b) refl (split_by-has p text)

-- blanks at the front say nothing
skipped : (p : ℕ → Bool) (blanks text : List ℕ) → list_all p blanks ≡ true → split_by p (blanks ++ text) ≡ split_by p text
skipped p [] text h = refl
skipped p (b ∷ blanks) text h =
    let both = and_parts (p b) (list_all p blanks) h in
    cond-true (p b) (split_by p (blanks ++ text)) (joined p b (blanks ++ text) (split_by p (blanks ++ text))) both.0 ∙ skipped p blanks text both.1

all_blank : (p : ℕ → Bool) (text : List ℕ) → list_all p text ≡ true → split_by p text ≡ []
all_blank p [] h = refl
all_blank p (b ∷ text) h =
    let both = and_parts (p b) (list_all p text) h in
    cond-true (p b) (split_by p text) (joined p b text (split_by p text)) both.0 ∙ all_blank p text both.1

-- a byte of a word before its end, and before more of it
last_letter : (p : ℕ → Bool) (b : ℕ) (rest : List ℕ) → EndsWord p rest → joined p b rest (split_by p rest) ≡ (b ∷ []) ∷ split_by p rest
last_letter p b [] h = refl
last_letter p b (c ∷ rest) h = joined_alone p b c rest (split_by p (c ∷ rest)) h

word_first : (p : ℕ → Bool) (b : ℕ) (word rest : List ℕ) → p b ≡ false → list_all (λ c. not (p c)) word ≡ true → EndsWord p rest
    → split_by p (b ∷ word ++ rest) ≡ (b ∷ word) ∷ split_by p rest
word_first p b [] rest letter all ends = cond-false (p b) (split_by p rest) (joined p b rest (split_by p rest)) letter ∙ last_letter p b rest ends
word_first p b (c ∷ word) rest letter all ends =
    let both = and_parts (not (p c)) (list_all (λ c. not (p c)) word) all in
    let also = not-true (p c) both.0 in
    let text = c ∷ word ++ rest in
    cond-false (p b) (split_by p text) (joined p b text (split_by p text)) letter
    ∙ ap (joined p b text) (word_first p c word rest also both.1 ends)
    ∙ cond-false (p c) ((b ∷ []) ∷ (c ∷ word) ∷ split_by p rest) ((b ∷ c ∷ word) ∷ split_by p rest) also

-- the first word, and the words after it
pub word_split : (p : ℕ → Bool) (word rest : List ℕ) → IsWord p word → EndsWord p rest → split_by p (word ++ rest) ≡ word ∷ split_by p rest
word_split p [] rest h ends = absurd (omega (arith, h.0))
word_split p (b ∷ word) rest h ends =
    let both = and_parts (not (p b)) (list_all (λ c. not (p c)) word) h.1 in
    word_first p b word rest (not-true (p b) both.0) both.1 ends

pub split_by-only : (p : ℕ → Bool) (text : List ℕ) (words : List (List ℕ)) → HasWords p text words → words ≡ split_by p text
split_by-only p text [] h = sym (all_blank p text h)
split_by-only p text (word ∷ words) h =
    let split = ap (split_by p) h.5 ∙ skipped p h.1 (word ++ h.2) h.3 ∙ word_split p word h.2 h.0 h.4 in
    ap (λ ws. word ∷ ws) (split_by-only p h.2 words h.6) ∙ sym split
