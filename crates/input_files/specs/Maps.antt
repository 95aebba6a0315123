-- Verdicts on map files, and their invalid lines.
use Rattle.std.specs.Prelude.{◌⊎◌, ℕ, ◌+◌, Bool, true, false, List, [], ◌∷◌, ◌++◌, Option, Some}
use Rattle.std.specs.Prelude.{None}
use Rattle.permission_map.specs.declared.runs.Run.{Run}
use Rattle.map_text.specs.MapFile.{FaultAt, IsUnknown, Makes, MakesTooMany, raw_says}

-- some line is the first at fault: it is invalid, or after it there would be too many ranges
abbrev pub IsAtFault : List ℕ → Type 0
IsAtFault bytes = ((n : ℕ) × FaultAt bytes n IsUnknown) ⊎ ((n : ℕ) × FaultAt bytes n MakesTooMany)

-- the verdict on bytes as a map: their lines form one, or some line is the first at fault
abbrev pub IsVerdictOfLines : List ℕ → Bool → Type 0
IsVerdictOfLines bytes true = (runs : List Run) × Makes bytes runs
IsVerdictOfLines bytes false = IsAtFault bytes

-- line n, if it is invalid
abbrev pub unknown_by : ℕ → Option (Option Run) → List ℕ
unknown_by n None = n ∷ []
unknown_by n (Some said) = []

-- the numbers of the invalid lines, if the first line has number n
abbrev pub unknown_from : ℕ → List (List ℕ) → List ℕ
unknown_from n [] = []
unknown_from n (raw ∷ lines) = unknown_by n (raw_says raw) ++ unknown_from (n + 1) lines
