-- How a text falls into its first word and the rest.
use Rattle.std.proofs.Common.{◌≡◌, ℕ, ◌+◌, ◌<◌, ◌∙◌, Bool, true, false, List, [], ◌∷◌, suc, length, get_or, ◌-◌, take, drop, refl, ap, sym, arith}
use Rattle.std.specs.List.{prefix_len, position_or_len, before_first}
use Rattle.std.proofs.lemmas.Grind.{common_steps}
use Rattle.std.proofs.lemmas.Bool.{cond-false}
use Rattle.std.proofs.lemmas.List.Sums.{prefix_len_stops}
use Rattle.text_lines.specs.Words.{joined, split_by}

one_more : (n : ℕ) → 1 + n ≡ suc n
one_more n = omega arith

skipped : (p : ℕ → Bool) (b : ℕ) (bytes : List ℕ) (t : Bool) → p b ≡ t → split_by p (drop (prefix_len p bytes) bytes) ≡ split_by p bytes
    → split_by p (drop (prefix_len p (b ∷ bytes)) (b ∷ bytes)) ≡ split_by p (b ∷ bytes)
skipped p b bytes true h e = rw (h, one_more (prefix_len p bytes)) e
skipped p b bytes false h e = rw h (cond-false (p b) (split_by p bytes) (joined p b bytes (split_by p bytes)) h)

-- blanks before the first word say nothing
pub split_by-blanks : (p : ℕ → Bool) (bytes : List ℕ) → split_by p (drop (prefix_len p bytes) bytes) ≡ split_by p bytes
split_by-blanks p [] = refl
split_by-blanks p (b ∷ bytes) = skipped p b bytes (p b) refl (split_by-blanks p bytes)

-- a byte before a blank stands alone
pub joined_alone : (p : ℕ → Bool) (b next : ℕ) (rest : List ℕ) (words : List (List ℕ)) → p next ≡ true → joined p b (next ∷ rest) words ≡ (b ∷ []) ∷ words
joined_alone p b next rest [] h = refl
joined_alone p b next rest (word ∷ words) h = rw h refl

-- what is left of a text after its first word
abbrev pub behind : (ℕ → Bool) → List ℕ → List ℕ
behind p bytes = drop (position_or_len p bytes) bytes

word_joined : (p : ℕ → Bool) (b c : ℕ) (bytes : List ℕ) (t : Bool) → p c ≡ t
    → (p c ≡ false → split_by p (c ∷ bytes) ≡ (c ∷ before_first p bytes) ∷ split_by p (behind p bytes))
    → joined p b (c ∷ bytes) (split_by p (c ∷ bytes)) ≡ (b ∷ before_first p (c ∷ bytes)) ∷ split_by p (behind p (c ∷ bytes))
word_joined p b c bytes true h e = joined_alone p b c bytes (split_by p (c ∷ bytes)) h ∙ rw (h, h) refl
word_joined p b c bytes false h e = ap (joined p b (c ∷ bytes)) (e h) ∙ rw (h, one_more (position_or_len p bytes)) refl

-- a text that begins with a byte of a word has that word first, and then the words after it
pub split_by-word : (p : ℕ → Bool) (b : ℕ) (bytes : List ℕ) → p b ≡ false → split_by p (b ∷ bytes) ≡ (b ∷ before_first p bytes) ∷ split_by p (behind p bytes)
split_by-word p b [] h = rw h refl
split_by-word p b (c ∷ bytes) h = rw h (word_joined p b c bytes (p c) refl (split_by-word p c bytes))

-- a text that does not begin with a blank
pub first_word : (p : ℕ → Bool) (text : List ℕ) → 0 < length text → p (get_or text 0 0) ≡ false
    → split_by p text ≡ before_first p text ∷ split_by p (behind p text)
first_word p [] h f = absurd (omega arith)
first_word p (b ∷ bytes) h f = split_by-word p b bytes f ∙ rw (f, one_more (position_or_len p bytes)) refl

-- what stands after the blanks does not begin with one
pub begins_word : (p : ℕ → Bool) (text : List ℕ) → 0 < length (drop (prefix_len p text) text) → p (get_or (drop (prefix_len p text) text) 0 0) ≡ false
begins_word p text h = let e = prefix_len_stops p text 0 in grind (arith, common_steps, e)

-- `&text[start..]` is read as `take (length text - start) (drop start text)`
pub rest_from : (i : ℕ) (xs : List ℕ) → take (length xs - i) (drop i xs) ≡ drop i xs
rest_from i xs = grind (arith, common_steps)

nothing_split : (p : ℕ → Bool) (text : List ℕ) → length text ≡ 0 → split_by p text ≡ []
nothing_split p [] h = refl
nothing_split p (b ∷ bytes) h = absurd (omega arith)

-- a text of blanks has no word
pub only_blanks : (p : ℕ → Bool) (text rest : List ℕ) → rest ≡ drop (prefix_len p text) text → length rest ≡ 0 → split_by p text ≡ []
only_blanks p text rest e h = sym (split_by-blanks p text) ∙ ap (split_by p) (sym e) ∙ nothing_split p rest h

-- the first word is after the blanks, and the other words after it
pub next_word_is : (p : ℕ → Bool) (text rest : List ℕ) (n : ℕ) → rest ≡ drop (prefix_len p text) text → (length rest ≡ 0 → ⊥) → n ≡ position_or_len p rest
    → split_by p text ≡ take n rest ∷ split_by p (drop n rest)
next_word_is p text rest n e h f =
    let some : 0 < length rest = omega arith in
    let begun : p (get_or rest 0 0) ≡ false = rw e (begins_word p text (rw (← e) some)) in
    sym (split_by-blanks p text) ∙ ap (split_by p) (sym e) ∙ first_word p rest some begun ∙ ap (λ k. take k rest ∷ split_by p (drop k rest)) (sym f)
