-- How the placed words of a text fall into the first and the rest, and which words they are.
use Rattle.std.proofs.Common.{◌≡◌, ℕ, ◌+◌, ◌<◌, ◌∙◌, Bool, true, false, cond, List, [], ◌∷◌, suc, length, get_or, ◌-◌, take, drop, refl, ap, sym, arith}
use Rattle.std.specs.List.{prefix_len, position_or_len, before_first}
use Rattle.std.proofs.lemmas.Grind.{common_steps}
use Rattle.std.proofs.lemmas.Bool.{cond-false}
use Rattle.text_lines.specs.Words.{is_blank, joined, split_by}
use Rattle.text_lines.proofs.Splitting.{begins_word}
use Rattle.text_lines.specs.Columns.{PlacedWord, begin_from, end_from, placed_at, placed_by, placed_joined, word_from, words_in}

-- the words of a choice
words_of_choice : (t : Bool) (a b : List PlacedWord) → words_in (cond t a b) ≡ cond t (words_in a) (words_in b)
words_of_choice true a b = refl
words_of_choice false a b = refl

words_joined : (p : ℕ → Bool) (at b : ℕ) (bytes : List ℕ) (words : List PlacedWord)
    → words_in (placed_joined p at b bytes words) ≡ joined p b bytes (words_in words)
words_joined p at b [] words = refl
words_joined p at b (next ∷ rest) [] = refl
words_joined p at b (next ∷ rest) (placed ∷ words) = words_of_choice (p next) ((at, b ∷ []) ∷ placed ∷ words) ((at, b ∷ placed.1) ∷ words)

-- placed words are the words
pub words_placed : (p : ℕ → Bool) (at : ℕ) (bytes : List ℕ) → words_in (placed_by p at bytes) ≡ split_by p bytes
words_placed p at [] = refl
words_placed p at (b ∷ bytes) =
    let more = words_placed p (at + 1) bytes in
    words_of_choice (p b) (placed_by p (at + 1) bytes) (placed_joined p at b bytes (placed_by p (at + 1) bytes))
    ∙ ap (λ ws. cond (p b) ws (words_in (placed_joined p at b bytes (placed_by p (at + 1) bytes)))) more
    ∙ ap (λ ws. cond (p b) (split_by p bytes) ws) (words_joined p at b bytes (placed_by p (at + 1) bytes) ∙ ap (joined p b bytes) more)

one_more : (n : ℕ) → 1 + n ≡ suc n
one_more n = omega arith

moved : (at n : ℕ) → at + (1 + n) ≡ at + 1 + n
moved at n = omega arith

skipped :
    (p : ℕ → Bool) (at b : ℕ) (bytes : List ℕ) (t : Bool) → p b ≡ t → placed_by p (at + 1 + prefix_len p bytes) (drop (prefix_len p bytes) bytes) ≡ placed_by p
    (at + 1) bytes
    → placed_by p (at + prefix_len p (b ∷ bytes)) (drop (prefix_len p (b ∷ bytes)) (b ∷ bytes)) ≡ placed_by p at (b ∷ bytes)
skipped p at b bytes true h e = rw (h, moved at (prefix_len p bytes), one_more (prefix_len p bytes)) e
skipped p at b bytes false h e =
    let none : at + 0 ≡ at = omega arith in
    rw (h, none) (cond-false (p b) (placed_by p (at + 1) bytes) (placed_joined p at b bytes (placed_by p (at + 1) bytes)) h)

-- blanks before the first word say nothing
pub placed_by-blanks : (p : ℕ → Bool) (at : ℕ) (bytes : List ℕ) → placed_by p (at + prefix_len p bytes) (drop (prefix_len p bytes) bytes) ≡ placed_by p at bytes
placed_by-blanks p at [] = refl
placed_by-blanks p at (b ∷ bytes) = skipped p at b bytes (p b) refl (placed_by-blanks p (at + 1) bytes)

joined_alone : (p : ℕ → Bool) (at b next : ℕ) (rest : List ℕ) (words : List PlacedWord) → p next ≡ true
    → placed_joined p at b (next ∷ rest) words ≡ (at, b ∷ []) ∷ words
joined_alone p at b next rest [] h = refl
joined_alone p at b next rest (placed ∷ words) h = rw h refl

-- what is left of a text after its first word
abbrev behind : (ℕ → Bool) → List ℕ → List ℕ
behind p bytes = drop (position_or_len p bytes) bytes

word_joined :
    (p : ℕ → Bool) (at b c : ℕ) (bytes : List ℕ) (t : Bool) → p c ≡ t
    → (p c ≡ false → placed_by p (at + 1) (c ∷ bytes) ≡ (at + 1, c ∷ before_first p bytes) ∷ placed_by p (at + 1 + (1 + position_or_len p bytes))
    (behind p bytes))
    → placed_joined p at b (c ∷ bytes) (placed_by p (at + 1) (c ∷ bytes)) ≡ (at, b ∷ before_first p (c ∷ bytes)) ∷ placed_by p
    (at + (1 + position_or_len p (c ∷ bytes))) (behind p (c ∷ bytes))
word_joined p at b c bytes true h e = joined_alone p at b c bytes (placed_by p (at + 1) (c ∷ bytes)) h ∙ rw (h, h) refl
word_joined p at b c bytes false h e =
    ap (placed_joined p at b (c ∷ bytes)) (e h) ∙ rw (h, one_more (position_or_len p bytes), moved at (suc (position_or_len p bytes))) refl

-- a text that begins with a byte of a word has that word first, and then the words after it
placed_by-word :
    (p : ℕ → Bool) (at b : ℕ) (bytes : List ℕ) → p b ≡ false
    → placed_by p at (b ∷ bytes) ≡ (at, b ∷ before_first p bytes) ∷ placed_by p (at + (1 + position_or_len p bytes)) (behind p bytes)
placed_by-word p at b [] h = rw h refl
placed_by-word p at b (c ∷ bytes) h = rw h (word_joined p at b c bytes (p c) refl (placed_by-word p (at + 1) c bytes))

-- a text that does not begin with a blank
first_word :
    (p : ℕ → Bool) (at : ℕ) (text : List ℕ) → 0 < length text → p (get_or text 0 0) ≡ false
    → placed_by p at text ≡ (at, before_first p text) ∷ placed_by p (at + position_or_len p text) (behind p text)
first_word p at [] h f = absurd (omega arith)
first_word p at (b ∷ bytes) h f = placed_by-word p at b bytes f ∙ rw (f, one_more (position_or_len p bytes)) refl

nothing_placed : (p : ℕ → Bool) (at : ℕ) (text : List ℕ) → length text ≡ 0 → placed_by p at text ≡ []
nothing_placed p at [] h = refl
nothing_placed p at (b ∷ bytes) h = absurd (omega arith)

drop_both : (m n : ℕ) (xs : List ℕ) → drop (m + n) xs ≡ drop n (drop m xs)
drop_both m n xs = grind (arith, common_steps)

-- a text of blanks from a place on has no word there
pub no_word_at :
    (p : ℕ → Bool) (text : List ℕ) (at begin : ℕ) → begin ≡ at + prefix_len p (drop at text) → begin ≡ length text → placed_by p at (drop at text) ≡ []
no_word_at p text at begin e h =
    let rest = drop at text in
    let end : length (drop (prefix_len p rest) rest) ≡ 0 = grind (arith, common_steps, e, h, drop_both at (prefix_len p rest) text) in
    sym (placed_by-blanks p at rest) ∙ nothing_placed p (at + prefix_len p rest) (drop (prefix_len p rest) rest) end

-- otherwise the first is after the blanks, and the others after it
pub word_at :
    (p : ℕ → Bool) (text : List ℕ) (at begin n : ℕ) → begin ≡ at + prefix_len p (drop at text) → begin < length text → n ≡ position_or_len p (drop begin text)
    → placed_by p at (drop at text) ≡ (begin, take n (drop begin text)) ∷ placed_by p (begin + n) (drop (begin + n) text)
word_at p text at begin n e less f =
    let rest = drop at text in
    let same : drop (prefix_len p rest) rest ≡ drop begin text = sym (drop_both at (prefix_len p rest) text) ∙ ap (λ k. drop k text) (sym e) in
    let some : 0 < length (drop (prefix_len p rest) rest) = rw same (grind (arith, common_steps)) in
    let first = first_word p (at + prefix_len p rest) (drop (prefix_len p rest) rest) some (begins_word p rest some) in
    sym (placed_by-blanks p at rest) ∙ first
    ∙ ap (λ xs. (at + prefix_len p rest, before_first p xs) ∷ placed_by p (at + prefix_len p rest + position_or_len p xs) (behind p xs)) same
    ∙ ap (λ k. (k, before_first p (drop begin text)) ∷ placed_by p (k + position_or_len p (drop begin text)) (behind p (drop begin text))) (sym e)
    ∙ ap (λ k. (begin, take k (drop begin text)) ∷ placed_by p (begin + k) (drop k (drop begin text))) (sym f)
    ∙ ap (λ xs. (begin, take n (drop begin text)) ∷ placed_by p (begin + n) xs) (sym (drop_both begin n text))

-- the first word from a place on, as it is found
pub found_at : (text : List ℕ) (at : ℕ) → begin_from text at < length text
    → placed_at text at ≡ (begin_from text at, word_from text at) ∷ placed_at text (end_from text at)
found_at text at less =
    let begin = begin_from text at in
    let n = position_or_len is_blank (drop begin text) in
    let long : n ≡ begin + n - begin = omega arith in
    word_at is_blank text at begin n refl less refl ∙ ap (λ k. (begin, take k (drop begin text)) ∷ placed_at text (begin + n)) long
