-- An answer with a comment after it.
use Rattle.std.specs.Prelude.{◌≡◌, List, ℕ, ◌++◌, take, Option, Some, None, codes}
use Rattle.text_lines.specs.LineLoop.{Meaning}
use Rattle.text_lines.specs.Lines.{unended}

-- an answer followed by as much of a comment as fits into a line of 128 bytes
abbrev pub explained : List ℕ → List ℕ → List ℕ
explained answer comment = take 127 (unended answer ++ (codes " # " ++ comment)) ++ codes "\n"

-- the text written for a line: none if it has no answer, otherwise the answer with some comment
abbrev pub IsExplained : Option (List ℕ) → Option (List ℕ) → Type 0
IsExplained None said = said ≡ None
IsExplained (Some answer) said = (comment : List ℕ) × (said ≡ Some (explained answer comment))

-- this meaning, with a comment after each answer
abbrev pub explaining : {S : Type 0} → Meaning S → Meaning S
explaining does = λ old n line said new.
    (answer : Option (List ℕ)) × does old n line answer new × IsExplained answer said
