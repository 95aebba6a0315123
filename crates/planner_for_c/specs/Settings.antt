-- The meaning of settings: each gives a permission to pages, and one after another they make a map,
-- unless one is refused.
use Rattle.std.specs.Prelude.{◌≡◌, ◌≢◌, ℕ, suc, ◌+◌, ◌/◌, ◌%◌, ◌^◌, ◌<◌, ◌≤◌, List, [], ◌∷◌, length}
use Rattle.pmp_encoding.specs.declared.perm.Perm.{Perm}
use Rattle.pmp_encoding.specs.Perms.{bits_of}
use Rattle.permission_map.specs.declared.runs.Run.{Run}
use Rattle.permission_map.specs.Overwrite.{AreOverwritten}
use Rattle.planner_for_c.specs.declared.settings.Setting.{Setting}
use Rattle.planner_for_c.specs.declared.settings.SettingFault.{SettingFault}
use Rattle.planner_for_c.specs.declared.settings.SettingFault.TheVariants.{UnalignedBase}
use Rattle.planner_for_c.specs.declared.settings.SettingFault.TheVariants.{UnalignedSize}
use Rattle.planner_for_c.specs.declared.settings.SettingFault.TheVariants.{UnknownPerm, PastEnd}
use Rattle.planner_for_c.specs.declared.settings.SettingFault.TheVariants.{TooManyRanges}

-- the setting has whole pages
abbrev pub IsOnPages : Setting → Type 0
IsOnPages setting = (setting.base % 4096 ≡ 0) × (setting.size % 4096 ≡ 0)

-- all bytes of the setting are in the address space
abbrev pub IsInside : Setting → Type 0
IsInside setting = setting.base + setting.size ≤ 2 ^ 56

-- the setting has this permission
abbrev pub Names : Setting → Perm → Type 0
Names setting perm = bits_of perm ≡ setting.perm

-- the runs of a map after the permission is set on the setting's pages
abbrev pub AreSet : List Run → Setting → Perm → List Run → Type 0
AreSet before setting perm after =
    AreOverwritten before (setting.base / 4096) (setting.size / 4096) perm after

-- a setting turns one map into another, which has at most 4096 ranges
pub record Sets (before : List Run) (setting : Setting) (after : List Run) : Type 0 where
  pub pages : IsOnPages setting
  pub inside : IsInside setting
  pub perm : Perm
  pub named : Names setting perm
  pub overwritten : AreSet before setting perm after
  pub few : length after ≤ 4096

-- the settings, one after another, turn one map into another
pub data LeadTo : List Run → List Setting → List Run → Type 0 where
  done : {map : List Run} → LeadTo map [] map
  next :
      {before middle after : List Run} {setting : Setting} {settings : List Setting}
      → Sets before setting middle → LeadTo middle settings after
      → LeadTo before (setting ∷ settings) after

-- the setting would make a map of more than 4096 ranges
pub record SetsTooMany (before : List Run) (setting : Setting) : Type 0 where
  pub perm : Perm
  pub named : Names setting perm
  pub runs : List Run
  pub overwritten : AreSet before setting perm runs
  pub many : 4096 < length runs

-- the reason why a setting is refused, the first that applies
abbrev pub IsRefusedFor : SettingFault → List Run → Setting → Type 0
IsRefusedFor UnalignedBase before setting = setting.base % 4096 ≢ 0
IsRefusedFor UnalignedSize before setting = (setting.base % 4096 ≡ 0) × (setting.size % 4096 ≢ 0)
IsRefusedFor UnknownPerm before setting = IsOnPages setting × ((perm : Perm) → ¬ Names setting perm)
IsRefusedFor PastEnd before setting = IsOnPages setting × ((perm : Perm) × Names setting perm)
    × (2 ^ 56 < setting.base + setting.size)
IsRefusedFor TooManyRanges before setting = IsOnPages setting × IsInside setting
    × SetsTooMany before setting

-- the first refused setting has this index, and is refused for this reason
pub data FaultIn : List Run → List Setting → ℕ → SettingFault → Type 0 where
  here : {before : List Run} {setting : Setting} {settings : List Setting} {fault : SettingFault}
      → IsRefusedFor fault before setting → FaultIn before (setting ∷ settings) 0 fault
  later :
      {before middle : List Run} {setting : Setting} {settings : List Setting} {i : ℕ}
      {fault : SettingFault} → Sets before setting middle
      → FaultIn middle settings i fault → FaultIn before (setting ∷ settings) (suc i) fault
