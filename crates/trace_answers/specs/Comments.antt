-- The answer that the comment of a line expects.
use Rattle.std.specs.Prelude.{ℕ, ◌==◌, ◌||◌, ◌&&◌, nat_le, Bool, true, false, not, List, [], ◌∷◌}
use Rattle.std.specs.Prelude.{map, take, drop, Option, Some, None, codes, bytes_eq}
use Rattle.std.specs.List.{position_or_len, prefix_len}
use Rattle.text_lines.specs.Words.{split_words}

-- a decimal digit
abbrev pub is_digit : ℕ → Bool
is_digit b = nat_le 48 b && nat_le b 57

-- a byte that may occur in a word of an answer: a digit, a lower-case ASCII letter, a minus
abbrev pub is_spoken : ℕ → Bool
is_spoken b = is_digit b || (nat_le 97 b && nat_le b 122) || b == 45

-- the prefix of a word that may occur in an answer
abbrev pub spoken : List ℕ → List ℕ
spoken word = take (prefix_len is_spoken word) word

-- the words of a text, reduced to these prefixes
abbrev pub spoken_words : List ℕ → List (List ℕ)
spoken_words text = map spoken (split_words text)

-- the comment of a line, from its `#` on
abbrev pub comment_of : List ℕ → List ℕ
comment_of line = drop (position_or_len (λ b. b == 35) line) line

-- the text after the `#`
abbrev pub remark_of : List ℕ → List ℕ
remark_of line = drop 1 (comment_of line)

-- the first words of answers, after the number
abbrev pub is_kind : List ℕ → Bool
is_kind word = bytes_eq word (codes "ok") || bytes_eq word (codes "fault")
    || bytes_eq word (codes "call") || bytes_eq word (codes "irq")

-- a word begins with a digit
abbrev pub is_numbered : List ℕ → Bool
is_numbered [] = false
is_numbered (first ∷ rest) = is_digit first

-- words have the form of an answer: such a word comes first, or after a number
abbrev pub says_answer : List (List ℕ) → Bool
says_answer [] = false
says_answer (first ∷ []) = is_kind first
says_answer (first ∷ second ∷ rest) = is_kind first || (is_numbered first && is_kind second)

-- words begin with others
abbrev pub begins : List (List ℕ) → List (List ℕ) → Bool
begins said [] = true
begins [] (word ∷ words) = false
begins (other ∷ said) (word ∷ words) = bytes_eq other word && begins said words

-- all words except the first
abbrev pub behind_first : List (List ℕ) → List (List ℕ)
behind_first [] = []
behind_first (word ∷ words) = words

-- words are this answer: they begin with its words, except that its number may be omitted
abbrev pub says_it : List (List ℕ) → List (List ℕ) → Bool
says_it said answer = begins said answer || begins said (behind_first answer)

-- the comment of a line expects this answer or none
abbrev pub answer_agrees : List ℕ → List ℕ → Bool
answer_agrees line answer = not (says_answer (spoken_words (remark_of line)))
    || says_it (spoken_words (remark_of line)) (spoken_words answer)

-- a line has no answer, or one with which its comment agrees
abbrev pub agrees : List ℕ → Option (List ℕ) → Bool
agrees line None = true
agrees line (Some answer) = answer_agrees line answer
