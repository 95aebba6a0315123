-- The comparison of the answers to an input with those that its comments expect.
use Rattle.std.specs.Prelude.{◌≡◌, ℕ, ◌+◌, true, false, if◌then◌else◌, List, ◌∷◌, ◌++◌, length}
use Rattle.std.specs.Prelude.{Option, Some, None}
use Rattle.text_lines.specs.Lines.{without_return}
use Rattle.text_lines.specs.LineLoop.{Meaning, Does, DoesAll}
use Rattle.trace_answers.specs.Comments.{agrees, answer_agrees}
use Rattle.trace_answers.specs.declared.difference.Difference.{Difference}

-- this meaning, restricted to lines whose comments agree with their answers
abbrev pub agreeing : {S : Type 0} → Meaning S → Meaning S
agreeing does = λ old n line said new. does old n line said new × (agrees line said ≡ true)

-- the number of a line, from 1, and its answer
abbrev pub LineAnswer : Type 0
LineAnswer = ℕ × List ℕ

-- this line is the first whose comment expects another answer than this one; the lines before it
-- agree with their answers
pub record IsFirstDifference {S : Type 0} (does : Meaning S) (old : S) (lines : List (List ℕ))
    (found : LineAnswer) : Type 0 where
  pub before : List (List ℕ)
  pub line : List ℕ
  pub after : List (List ℕ)
  pub among : lines ≡ before ++ line ∷ after
  pub answers : List (List ℕ)
  pub now : S
  pub agreed : Does (agreeing does) old before answers now
  pub answer : List ℕ
  pub next : S
  pub done : does now (length answers) (without_return line) (Some answer) next
  pub differs : answer_agrees (without_return line) answer ≡ false
  pub told : found ≡ (length before + 1, answer)

-- the whole input was read, and each of its lines interpreted and answered: all comments agree with
-- the answers, or the first line whose comment does not is found
abbrev pub ComparesAll : {S : Type 0} → Meaning S → S → S → Option (List ℕ) → Option (List ℕ)
    → Option (List ℕ) → Option (List ℕ) → Option LineAnswer → Type 0
ComparesAll does old new before after held holds None =
    DoesAll (agreeing does) old new before after held holds
ComparesAll does old new before after held holds (Some found) =
    (all : DoesAll does old new before after held holds)
    × IsFirstDifference does old all.lines found

-- the first difference after one more line, which has this number: an earlier one is kept
abbrev pub first_with : Option LineAnswer → ℕ → List ℕ → Option (List ℕ) → Option LineAnswer
first_with (Some found) n line said = Some found
first_with None n line None = None
first_with None n line (Some answer) = if answer_agrees line answer then None else Some (n, answer)

-- the number of the line of a difference, and its answer
abbrev pub found_in : Difference → LineAnswer
found_in difference = (difference.number, difference.answer.items)
