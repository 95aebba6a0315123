-- The costs of the lines of a map file.
use Rattle.std.specs.Prelude.{◌≡◌, ℕ, ◌+◌, List, [], ◌∷◌, ◌++◌, Option, Some, None, drop, length}
use Rattle.std.specs.Prelude.{◌^◌, ◌/◌, ◌==◌, if◌then◌else◌, min, take}
use Rattle.pmp_encoding.specs.declared.region.Entry.{Entry}
use Rattle.pmp_match.specs.Meaning.{IsFewest}
use Rattle.permission_map.specs.declared.runs.Run.{Run}
use Rattle.permission_map.specs.Runs.{view_of_runs}
use Rattle.input_files.specs.declared.line_costs.LineCost.{LineCost}
use Rattle.input_files.specs.declared.idle_lines.Numbered.{Numbered}
use Rattle.input_files.specs.Settings.{IsTooManyAfter, SetTo}

-- the minimum number of entries of the map of the settings
pub record Needs (settings : List Numbered) (n : ℕ) : Type 0 where
  pub map : List Run
  pub set : SetTo [] settings map
  pub entries : List Entry
  pub fewest : IsFewest (view_of_runs map) entries
  pub count : length entries ≡ n

-- the minimum number of entries of the map of settings, or `None` if they would give too many
-- ranges
abbrev pub HasCost : List Numbered → Option ℕ → Type 0
HasCost settings (Some n) = Needs settings n
HasCost settings None = (line : ℕ) × IsTooManyAfter line [] settings

-- the number of settings to evaluate if there are this many: 512, or fewer if applying all others
-- for each of them takes more than 2^19 steps
abbrev pub looked_at : ℕ → ℕ
looked_at count = if count == 0 then 0 else min count (min 512 (2 ^ 19 / count))

-- the costs of the first settings: for each the minimum number of entries of the map of all others
pub data AreCosts (settings : List Numbered) : ℕ → List LineCost → Type 0 where
  none : AreCosts settings 0 []
  more :
      (i : ℕ) (numbered : Numbered) (cost : Option ℕ) (costs : List LineCost)
      → AreCosts settings i costs → drop i settings ≡ numbered ∷ drop (i + 1) settings
      → HasCost (take i settings ++ drop (i + 1) settings) cost
      → AreCosts settings (i + 1) (costs ++ record { line = numbered.line; fewest = cost } ∷ [])
