-- The settings of a map's lines, and the resulting maps.
use Rattle.std.specs.Prelude.{◌≡◌, ◌⊎◌, ◌≢◌, ℕ, ◌+◌, ◌^◌, ◌<◌, ◌≤◌, Bool, true, false, List, []}
use Rattle.std.specs.Prelude.{◌∷◌, ◌++◌, length, Option, Some}
use Rattle.pmp_encoding.specs.declared.perm.Perm.TheVariants.{NoAccess}
use Rattle.permission_map.specs.declared.runs.Run.{Run}
use Rattle.permission_map.specs.Runs.{end_of, view_of_runs}
use Rattle.map_text.specs.MapFile.{Sets, SetsTooMany, raw_says}
use Rattle.input_files.specs.declared.idle_lines.Numbered.{Numbered}
use Rattle.std.specs.declared.vec.Vec.{Vec}
use Rattle.std.specs.declared.alloc.Global.{Global}
use Rattle.input_files.specs.declared.idle_lines.IdleLine.{IdleLine}
use Rattle.input_files.specs.declared.idle_lines.MapRemark.{MapRemark}
use Rattle.input_files.specs.declared.idle_lines.MapRemark.TheVariants.{Nothing, TooManyAfter, Idle}

-- the setting of line n, if it sets something
abbrev pub settings_by : ℕ → Option (Option Run) → List Numbered
settings_by n (Some (Some setting)) = record { line = n; setting = setting } ∷ []
settings_by n _ = []

-- the settings of lines, if the first has number n
abbrev pub settings_from : ℕ → List (List ℕ) → List Numbered
settings_from n [] = []
settings_from n (raw ∷ lines) = settings_by n (raw_says raw) ++ settings_from (n + 1) lines

-- settings, applied one after another, change a map into another
abbrev pub SetTo : List Run → List Numbered → List Run → Type 0
SetTo before [] after = after ≡ before
SetTo before (numbered ∷ settings) after = (middle : List Run) × Sets before numbered.setting middle
    × SetTo middle settings after

-- line n is the first after which there would be too many ranges
abbrev pub IsTooManyAfter : ℕ → List Run → List Numbered → Type 0
IsTooManyAfter n before [] = ⊥
IsTooManyAfter n before (numbered ∷ settings) =
    ((numbered.line ≡ n) × SetsTooMany before numbered.setting)
    ⊎ ((middle : List Run) × Sets before numbered.setting middle
    × IsTooManyAfter n middle settings)

-- settings give a map other than `whole`, or too many ranges on the way
abbrev pub LeadElsewhere : List Numbered → List Run → Type 0
LeadElsewhere settings whole = ((other : List Run) × SetTo [] settings other × (other ≢ whole))
    ⊎ ((n : ℕ) × IsTooManyAfter n [] settings)

-- each page of a setting has no permission
abbrev pub IsDeniedOn : List Run → Run → Type 0
IsDeniedOn map setting = (page : ℕ) → setting.first ≤ page → page < end_of setting
    → view_of_runs map page ≡ NoAccess

-- some page of a setting has a permission
abbrev pub IsAllowedOn : List Run → Run → Type 0
IsAllowedOn map setting = (page : ℕ) × (setting.first ≤ page) × (page < end_of setting)
    × (view_of_runs map page ≢ NoAccess)

-- the bool is true iff a setting has no effect after others: it denies pages to which they give no
-- permission
pub data IsRedundantDenial (kept : List Numbered) (setting : Run) : Bool → Type 0 where
  denied : (before : List Run) → SetTo [] kept before → setting.perm ≡ NoAccess
      → IsDeniedOn before setting → IsRedundantDenial kept setting true
  allowed : (before : List Run) → SetTo [] kept before → IsAllowedOn before setting
      → IsRedundantDenial kept setting false
  allows : setting.perm ≢ NoAccess → IsRedundantDenial kept setting false

-- the settings that are named, from first to last, and those that are left: `kept` are those left
-- among the earlier ones. A setting is named iff the others that are still left give the whole map
-- without it; it is then removed
pub data AreNamed (whole : List Run) : List Numbered → List Numbered → List IdleLine → List Numbered
    → Type 0 where
  end : {kept : List Numbered} → AreNamed whole kept [] [] kept
  idle :
      {kept rest left : List Numbered} → {named : List IdleLine} → (numbered : Numbered)
      → (denial : Bool) → IsRedundantDenial kept numbered.setting denial
      → SetTo [] (kept ++ rest) whole → AreNamed whole kept rest named left
      → AreNamed whole kept (numbered ∷ rest) (record { line = numbered.line; redundant = denial }
      ∷ named) left
  needed :
      {kept rest left : List Numbered} → {named : List IdleLine} → (numbered : Numbered)
      → LeadElsewhere (kept ++ rest) whole → AreNamed whole (kept ++ numbered ∷ []) rest named left
      → AreNamed whole kept (numbered ∷ rest) named left

-- these lines are named; without all of them together, the settings that are left give the same map
pub record AreIdle (settings : List Numbered) (whole : List Run)
    (idle : List IdleLine) : Type 0 where
  pub left : List Numbered
  pub are_named : AreNamed whole [] settings idle left
  pub same : SetTo [] left whole

-- the remark on the settings of a file, given whether they form a map: the line after which there
-- would be too many ranges; otherwise, for a map in which at most 512 lines set something, the
-- lines that can all be removed together
pub data IsRemark (settings : List Numbered) : Bool → MapRemark → Type 0 where
  after : {is_map : Bool} (n : ℕ) → IsTooManyAfter n [] settings
      → IsRemark settings is_map (TooManyAfter n)
  no_map : (map : List Run) → SetTo [] settings map → IsRemark settings false Nothing
  many : (map : List Run) → SetTo [] settings map → 512 < length settings
      → IsRemark settings true Nothing
  named : (map : List Run) (idle : Vec IdleLine Global) → SetTo [] settings map
      → length settings ≤ 512 → AreIdle settings map idle.items
      → IsRemark settings true (Idle idle)

-- the range of a setting is inside the space
abbrev pub IsInside : Numbered → Type 0
IsInside numbered = numbered.setting.first + numbered.setting.count ≤ 2 ^ 44
