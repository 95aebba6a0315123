-- The lines that a reader returns from a text.
use Rattle.std.specs.Prelude.{◌≡◌, ℕ, ◌+◌, ◌<◌, ◌≤◌, Bool, true, false, List, [], ◌∷◌, ◌++◌, length}
use Rattle.std.specs.Prelude.{Result, Ok, Err}
use Rattle.text_lines.specs.declared.lines.LineReader.{LineReader}
use Rattle.text_lines.specs.LineReaders.{line_of, number_of, pending_of}
use Rattle.text_lines.specs.Lines.{IsShortLine, raw_lines, without_return}

-- the bytes that were not returned as lines: those in the reader's buffer and those after them
abbrev pub left_of : {size : ℕ} → LineReader size → List ℕ → List ℕ
left_of reader rest = pending_of reader ++ rest

-- the first of the remaining lines was returned, and the others remain
pub record HandsFirst {size : ℕ} (old new : LineReader size) (before after raw : List ℕ) :
    Type 0 where
  pub lines : raw_lines (left_of old before) ≡ raw ∷ raw_lines (left_of new after)
  pub shorter : length (left_of new after) < length (left_of old before)
  pub short : IsShortLine raw
  pub text : line_of new ≡ without_return raw
  pub number : number_of new ≡ number_of old + 1

-- the first of the remaining lines has more than 1023 bytes
pub record BeginsTooLong {size : ℕ} (n : ℕ) (old : LineReader size) (before raw : List ℕ)
    (rest : List (List ℕ)) : Type 0 where
  pub lines : raw_lines (left_of old before) ≡ raw ∷ rest
  pub long : 1024 ≤ length raw
  pub number : n ≡ number_of old + 1

-- the result of a reader over a text
abbrev pub NextOf : {size : ℕ} → Result Bool ℕ → LineReader size → LineReader size → List ℕ → List ℕ
    → Type 0
NextOf (Ok true) old new before after = (raw : List ℕ) × HandsFirst old new before after raw
NextOf (Ok false) old new before after = left_of old before ≡ []
NextOf (Err n) old new before after = (raw : List ℕ) × (rest : List (List ℕ))
    × BeginsTooLong n old before raw rest
