-- The results of checks for C.
use Rattle.std.specs.Prelude.{◌≡◌, ◌+◌, ℕ, ℤ, pos, negsuc, List, [], Result, Ok, Err}
use Rattle.permission_map.specs.declared.runs.Run.{Run}
use Rattle.permission_map.specs.Runs.{view_of_runs}
use Rattle.certificate_check.specs.Certificates.{HoldsFewest, RefusalStands}
use Rattle.certificate_check.specs.Refusals.{refusal_number}
use Rattle.certificate_check.specs.declared.refusal.CheckRefusal.{CheckRefusal}
use Rattle.planner_for_c.specs.declared.settings.Setting.{Setting}
use Rattle.planner_for_c.specs.declared.settings.SettingFault.{SettingFault}
use Rattle.planner_for_c.specs.Codes.{fault_code, no_memory}
use Rattle.planner_for_c.specs.Settings.{FaultIn, LeadTo}

-- from -101 down, by the number that the program prints
abbrev pub certificate_code : CheckRefusal → ℤ
certificate_code refusal = negsuc (99 + refusal_number refusal)

-- the number of entries, or the code of a refusal
abbrev pub check_code : Result ℕ CheckRefusal → ℤ
check_code (Ok n) = pos n
check_code (Err refusal) = certificate_code refusal

-- the bytes contain this many entries, which are the fewest that mean the settings' map; or they
-- are refused for their contents; or the settings make no map; or an allocation failed
pub data IsChecked (settings : List Setting) (bytes : List ℕ) (old_place new_place : ℕ) : ℤ
    → Type 0 where
  accepted : (runs : List Run) (n : ℕ) → LeadTo [] settings runs
      → HoldsFewest (view_of_runs runs) bytes n → new_place ≡ old_place
      → IsChecked settings bytes old_place new_place (pos n)
  rejected :
      (runs : List Run) (refusal : CheckRefusal) → LeadTo [] settings runs
      → RefusalStands (view_of_runs runs) bytes refusal → new_place ≡ old_place
      → IsChecked settings bytes old_place new_place (certificate_code refusal)
  no_map : (fault : SettingFault) → FaultIn [] settings new_place fault
      → IsChecked settings bytes old_place new_place (fault_code fault)
  no_room : new_place ≡ old_place → IsChecked settings bytes old_place new_place no_memory
