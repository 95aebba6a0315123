use Rattle.std.proofs.Common.{ℕ, ◌-◌, ◌<◌, ◌≤◌, length, slice_index_or}
use Rattle.permission_map.specs.declared.points.Point.{Point}
use Rattle.permission_map.specs.Points.{page_of}
use Rattle.permission_map.proofs.points.up_to.Given as goal

abbrev pub invariant-loop-to : goal.invariant-loop-to
invariant-loop-to l = record {
  order : l.from ≤ l.to;
  inside : l.to ≤ length l.points;
  front : (k : ℕ) (d : Point) → k < l.to → page_of (slice_index_or l.points k d) ≤ l.page;
}

abbrev pub decreases-loop-to : goal.decreases-loop-to
decreases-loop-to l = length l.points - l.to
