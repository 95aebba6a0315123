-- Plans of settings, and their results for C.
use Rattle.std.specs.Prelude.{◌≡◌, ℕ, ℤ, pos, ◌<◌, ◌≤◌, List, [], length, min}
use Rattle.pmp_encoding.specs.declared.region.Entry.{Entry}
use Rattle.pmp_match.specs.Meaning.{IsFewest}
use Rattle.permission_map.specs.declared.runs.Run.{Run}
use Rattle.permission_map.specs.Runs.{view_of_runs}
use Rattle.planner_for_c.specs.declared.settings.Setting.{Setting}
use Rattle.planner_for_c.specs.declared.settings.SettingFault.{SettingFault}
use Rattle.planner_for_c.specs.declared.registers.Registers.{Registers}
use Rattle.planner_for_c.specs.Codes.{fault_code, no_memory}
use Rattle.planner_for_c.specs.Registers.{HoldsList}
use Rattle.planner_for_c.specs.Settings.{FaultIn, LeadTo}

-- the settings make a map, and the entries are the fewest that mean its view
pub record IsPlanOf (settings : List Setting) (entries : List Entry) : Type 0 where
  pub runs : List Run
  pub made : LeadTo [] settings runs
  pub fewest : IsFewest (view_of_runs runs) entries

-- the number of fewest entries; or the code of the first refused setting, with its index; or that
-- an allocation failed
pub data IsNumberOf (settings : List Setting) (old_place new_place : ℕ) : ℤ → Type 0 where
  number : (entries : List Entry) → IsPlanOf settings entries → new_place ≡ old_place
      → IsNumberOf settings old_place new_place (pos (length entries))
  no_number : (fault : SettingFault) → FaultIn [] settings new_place fault
      → IsNumberOf settings old_place new_place (fault_code fault)
  number_without_memory : new_place ≡ old_place → IsNumberOf settings old_place new_place no_memory

-- as for the number, with registers that hold the fewest entries if there is room for them;
-- otherwise the registers are unchanged
pub data IsPlanned (settings : List Setting) (room : ℕ) (old new : Registers)
    (old_place new_place : ℕ) : ℤ → Type 0 where
  fits :
      (entries : List Entry) → IsPlanOf settings entries → length entries ≤ min room 64
      → HoldsList new entries → new_place ≡ old_place
      → IsPlanned settings room old new old_place new_place (pos (length entries))
  too_many :
      (entries : List Entry) → IsPlanOf settings entries → min room 64 < length entries → new ≡ old
      → new_place ≡ old_place
      → IsPlanned settings room old new old_place new_place (pos (length entries))
  refused : (fault : SettingFault) → FaultIn [] settings new_place fault → new ≡ old
      → IsPlanned settings room old new old_place new_place (fault_code fault)
  memory : new ≡ old → new_place ≡ old_place
      → IsPlanned settings room old new old_place new_place no_memory
