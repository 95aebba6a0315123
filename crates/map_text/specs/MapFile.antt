-- The meaning of a map file.
use Rattle.std.specs.Prelude.{◌≡◌, ℕ, ◌+◌, ◌/◌, ◌%◌, ◌^◌, ◌<◌, ◌≤◌, ◌==◌, nat_le, if◌then◌else◌}
use Rattle.std.specs.Prelude.{List, [], ◌∷◌, ◌++◌, length, Option, Some, None, option_map}
use Rattle.std.specs.Option.{option_and_then}
use Rattle.pmp_encoding.specs.declared.perm.Perm.{Perm}
use Rattle.permission_map.specs.declared.runs.Run.{Run}
use Rattle.permission_map.specs.Overwrite.{AreOverwritten}
use Rattle.text_lines.specs.Words.{words_of}
use Rattle.pmp_encoding.specs.Perms.{permission_of}
use Rattle.text_lines.specs.Numbers.{number_of}
use Rattle.text_lines.specs.Lines.{AreLines, without_return}

-- a number of bytes as pages, if they are whole pages
abbrev pub pages_of : ℕ → Option ℕ
pages_of bytes = if bytes % 4096 == 0 then Some (bytes / 4096) else None

-- the pages that a word counts in bytes
abbrev pub pages_in : List ℕ → Option ℕ
pages_in word = option_and_then pages_of (number_of word)

-- a permission on pages inside the space
abbrev pub setting_on : ℕ → ℕ → Perm → Option Run
setting_on first count perm = if nat_le (first + count) (2 ^ 44)
    then Some (record { first = first; count = count; perm = perm }) else None

-- the setting in these words: a base and a size in bytes, and a permission
abbrev pub setting_of : List (List ℕ) → Option Run
setting_of (base ∷ size ∷ perm ∷ []) =
    option_and_then (λ first. option_and_then
    (λ count. option_and_then (setting_on first count) (permission_of perm)) (pages_in size))
    (pages_in base)
setting_of _ = None

-- the meaning of words; an empty list sets nothing
abbrev pub said_by : List (List ℕ) → Option (Option Run)
said_by [] = Some None
said_by (word ∷ words) = option_map (λ setting. Some setting) (setting_of (word ∷ words))

-- the meaning of a line, if it is valid
abbrev pub line_says : List ℕ → Option (Option Run)
line_says line = option_and_then said_by (words_of line)

-- the meaning of a line of at most 1023 bytes, including its CR
abbrev pub raw_says : List ℕ → Option (Option Run)
raw_says raw = if nat_le (length raw) 1023 then line_says (without_return raw) else None

-- a setting changes a map into one of at most 4096 ranges
pub record Sets (before : List Run) (setting : Run) (after : List Run) : Type 0 where
  pub overwritten : AreOverwritten before setting.first setting.count setting.perm after
  pub most : length after ≤ 4096

-- a line with this meaning changes a map into another
abbrev pub Leads : Option (Option Run) → List Run → List Run → Type 0
Leads None before after = ⊥
Leads (Some None) before after = after ≡ before
Leads (Some (Some setting)) before after = Sets before setting after

-- lines, applied one after another, change a map into another, and each is valid
pub data LeadTo : List Run → List (List ℕ) → List Run → Type 0 where
  start : {map : List Run} → LeadTo map [] map
  line : {first before after : List Run} {lines : List (List ℕ)} → (raw : List ℕ)
      → LeadTo first lines before → Leads (raw_says raw) before after
      → LeadTo first (lines ++ raw ∷ []) after

-- a setting would change a map into more than 4096 ranges
pub record SetsTooMany (before : List Run) (setting : Run) : Type 0 where
  pub runs : List Run
  pub overwritten : AreOverwritten before setting.first setting.count setting.perm runs
  pub many : 4096 < length runs

-- the map of the lines of a file
pub record Makes (bytes : List ℕ) (map : List Run) : Type 0 where
  pub lines : List (List ℕ)
  pub are_lines : AreLines bytes lines
  pub made : LeadTo [] lines map

-- line n of a file is the first with this fault, given the map of the lines before it
pub record FaultAt (bytes : List ℕ) (n : ℕ) (fault : List Run → Option (Option Run)
    → Type 0) : Type 0 where
  pub before : List (List ℕ)
  pub raw : List ℕ
  pub rest : List (List ℕ)
  pub are_lines : AreLines bytes (before ++ raw ∷ rest)
  pub number : length before + 1 ≡ n
  pub map : List Run
  pub made : LeadTo [] before map
  pub here : fault map (raw_says raw)

-- a line that is invalid
abbrev pub IsUnknown : List Run → Option (Option Run) → Type 0
IsUnknown map says = says ≡ None

-- a line after which there would be too many ranges
abbrev pub MakesTooMany : List Run → Option (Option Run) → Type 0
MakesTooMany map says = (setting : Run) × (says ≡ Some (Some setting)) × SetsTooMany map setting

-- a setting would change a map without ranges into one of 1 to 4096: an allocation for it can fail
pub record SetsFirst (before : List Run) (setting : Run) : Type 0 where
  pub none : before ≡ []
  pub runs : List Run
  pub overwritten : AreOverwritten before setting.first setting.count setting.perm runs
  pub some : 0 < length runs
  pub most : length runs ≤ 4096

-- a line after which there would be the first ranges
abbrev pub MakesFirst : List Run → Option (Option Run) → Type 0
MakesFirst map says = (setting : Run) × (says ≡ Some (Some setting)) × SetsFirst map setting
