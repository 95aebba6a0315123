-- What C learns of a certificate, and that it learns nothing else.
use Rattle.std.proofs.Common.{◌≡◌, ℕ, List, [], Result, Ok, Err, refl, subst, sym}
use Rattle.permission_map.specs.declared.runs.Run.{Run}
use Rattle.permission_map.specs.Runs.{view_of_runs}
use Rattle.certificate_check.specs.Certificates.{HoldsFewest, RefusalStands}
use Rattle.certificate_check.specs.declared.refusal.CheckRefusal.{CheckRefusal}
use Rattle.planner_for_c.specs.declared.settings.Setting.{Setting as SettingOfC}
use Rattle.planner_for_c.specs.declared.settings.SettingFault.{SettingFault}
use Rattle.planner_for_c.specs.declared.settings.NoMap.{NoMap}
use Rattle.planner_for_c.specs.declared.settings.NoMap.TheVariants.{Setting, Memory}
use Rattle.planner_for_c.specs.Checks.{IsChecked, accepted, check_code, no_map, no_room, rejected}
use Rattle.planner_for_c.specs.Codes.{place_of, refusal_code}
use Rattle.planner_for_c.specs.Settings.{FaultIn, LeadTo}

pub verdict_told :
    (settings : List SettingOfC) (bytes : List ℕ) (place : ℕ) (runs : List Run) (verdict : Result ℕ CheckRefusal) → LeadTo [] settings runs
    → ((n : ℕ) → verdict ≡ Ok n → HoldsFewest (view_of_runs runs) bytes n)
    → ((refusal : CheckRefusal) → verdict ≡ Err refusal → RefusalStands (view_of_runs runs) bytes refusal)
    → IsChecked settings bytes place place (check_code verdict)
verdict_told settings bytes place runs (Ok n) led sound stands = accepted runs n led (sound n refl) refl
verdict_told settings bytes place runs (Err refusal) led sound stands = rejected runs refusal led (stands refusal refl) refl

pub no_map_told :
    (settings : List SettingOfC) (bytes : List ℕ) (r : NoMap) (old new : ℕ)
    → ((i : ℕ) (fault : SettingFault) → r ≡ Setting i fault → FaultIn [] settings i fault) → new ≡ place_of r old
    → IsChecked settings bytes old new (refusal_code r)
no_map_told settings bytes (Setting i fault) old new known is = no_map fault (subst (λ k. FaultIn [] settings k fault) (sym is) (known i fault refl))
no_map_told settings bytes Memory old new known is = no_room is
