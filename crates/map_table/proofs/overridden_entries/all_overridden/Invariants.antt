use Rattle.std.proofs.Common.{◌≡◌, ◌+◌, ◌-◌, ◌≤◌, ◌++◌, drop, length}
use Rattle.map_table.specs.Rows.{overridden_from}
use Rattle.map_table.proofs.overridden_entries.all_overridden.Given as goal

abbrev pub invariant-loop-from : goal.invariant-loop-from
invariant-loop-from l = record {
  found : l.found.items ++ overridden_from l.from (drop l.from l.extents) l.stretch ≡ overridden_from (l.i + 1) (drop (l.i + 1) l.extents) l.stretch;
  within : l.from ≤ length l.extents;
}

abbrev pub decreases-loop-from : goal.decreases-loop-from
decreases-loop-from l = length l.extents - l.from
