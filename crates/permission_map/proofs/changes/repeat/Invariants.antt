use Rattle.std.proofs.Common.{◌≡◌, ◌≤◌, ◌-◌, ◌++◌, map, take, drop, vec_len, vec_capacity}
use Rattle.permission_map.specs.Points.{with_perm}
use Rattle.permission_map.proofs.changes.repeat.Given as goal

abbrev pub invariant-loop-at : goal.invariant-loop-at
invariant-loop-at l = record {
  order : l.from ≤ l.at;
  inside : l.at ≤ l.to;
  len : vec_len l.points ≡ vec_len l.initial.points;
  items : l.points.items ≡ take l.from l.initial.points.items
      ++ (map (with_perm l.perm) (take (l.at - l.from) (drop l.from l.initial.points.items)) ++ drop l.at l.initial.points.items);
  room : vec_capacity l.initial.points ≤ vec_capacity l.points;
}

abbrev pub decreases-loop-at : goal.decreases-loop-at
decreases-loop-at l = l.to - l.at
