-- The words of a line with their positions.
use Rattle.std.specs.Prelude.{ℕ, ◌+◌, ◌-◌, Bool, if◌then◌else◌, List, [], ◌∷◌, length, map, take}
use Rattle.std.specs.Prelude.{drop}
use Rattle.std.specs.List.{position_or_len, prefix_len}
use Rattle.text_lines.specs.Words.{is_blank}

-- the position of the first word that begins at or after `at`
abbrev pub begin_from : List ℕ → ℕ → ℕ
begin_from text at = at + prefix_len is_blank (drop at text)

-- the position of the end of that word
abbrev pub end_from : List ℕ → ℕ → ℕ
end_from text at = begin_from text at + position_or_len is_blank (drop (begin_from text at) text)

-- the word there, or an empty one
abbrev pub word_from : List ℕ → ℕ → List ℕ
word_from text at = take (end_from text at - begin_from text at) (drop (begin_from text at) text)

-- a word and its position
abbrev pub PlacedWord : Type 0
PlacedWord = ℕ × List ℕ

-- the position of the end of a word
abbrev pub end_of : PlacedWord → ℕ
end_of placed = placed.0 + length placed.1

-- a byte before some words: it is a word if a blank or nothing follows it, otherwise it begins the
-- first of them
abbrev pub placed_joined : (ℕ → Bool) → ℕ → ℕ → List ℕ → List PlacedWord → List PlacedWord
placed_joined blank at b [] words = (at, b ∷ []) ∷ words
placed_joined blank at b (next ∷ rest) [] = (at, b ∷ []) ∷ []
placed_joined blank at b (next ∷ rest) (placed ∷ words) = if blank next then (at, b ∷ []) ∷ placed
    ∷ words else (at, b ∷ placed.1) ∷ words

-- the words of a text at position `at`, which are separated by one or more blanks
abbrev pub placed_by : (ℕ → Bool) → ℕ → List ℕ → List PlacedWord
placed_by blank at [] = []
placed_by blank at (b ∷ bytes) = if blank b then placed_by blank (at + 1) bytes
    else placed_joined blank at b bytes (placed_by blank (at + 1) bytes)

-- the words of a text that begin at or after a position
abbrev pub placed_at : List ℕ → ℕ → List PlacedWord
placed_at text at = placed_by is_blank at (drop at text)

-- the words of a text
abbrev pub placed_words : List ℕ → List PlacedWord
placed_words text = placed_by is_blank 0 text

-- the words without their positions
abbrev pub words_in : List PlacedWord → List (List ℕ)
words_in placed = map (λ (p : PlacedWord). p.1) placed
