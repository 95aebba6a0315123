use Rattle.std.proofs.Common.{ℕ, ◌+◌, ◌-◌, ◌≤◌, List, [], length}
use Rattle.permission_map.specs.declared.runs.Run.{Run}
use Rattle.planner_for_c.specs.declared.settings.SettingFault.{SettingFault}
use Rattle.planner_for_c.specs.Settings.{FaultIn, LeadTo}
use Rattle.planner_for_c.proofs.settings.map_of.Given as goal

abbrev pub invariant-loop-rest : goal.invariant-loop-rest
invariant-loop-rest l = record {
  led : (runs : List Run) → LeadTo l.map l.rest runs → LeadTo [] l.settings runs;
  fault : (i : ℕ) (fault : SettingFault) → FaultIn l.map l.rest i fault → FaultIn [] l.settings (length l.settings - length l.rest + i) fault;
  shorter : length l.rest ≤ length l.settings;
}

abbrev pub decreases-loop-rest : goal.decreases-loop-rest
decreases-loop-rest l = length l.rest
