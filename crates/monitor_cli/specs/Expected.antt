-- The end of a comparison of answers.
use Rattle.std.specs.Prelude.{◌≡◌, ℕ, List, Option, Some, None}
use Rattle.std.specs.Io.KnownBytes.{Appends}
use Rattle.trace_answers.specs.Comparisons.{LineAnswer}

-- the text for the first difference, and the status: nothing and 0 if all answers match, some text
-- and 1 otherwise
abbrev pub IsTold : Option LineAnswer → Option (List ℕ) → Option (List ℕ) → ℕ → Type 0
IsTold None before after status = (after ≡ before) × (status ≡ 0)
IsTold (Some found) before after status = ((text : List ℕ) × Appends before after text)
    × (status ≡ 1)
