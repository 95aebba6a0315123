use Rattle.std.proofs.Common.{◌≤◌, ◌^◌, ◌-◌}
use Rattle.permission_map.specs.Runs.{view_of_runs}
use Rattle.map_table.specs.Stretches.{AreStretches}
use Rattle.map_table.proofs.stretch.stretches.Given as goal

abbrev pub invariant-loop-at : goal.invariant-loop-at
invariant-loop-at l = record {
  inside : l.at ≤ 2 ^ 56;
  are : AreStretches (view_of_runs l.map) l.extents 0 l.all.items l.at;
}

abbrev pub decreases-loop-at : goal.decreases-loop-at
decreases-loop-at l = 2 ^ 56 - l.at
