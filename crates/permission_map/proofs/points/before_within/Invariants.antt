use Rattle.std.proofs.Common.{ℕ, ◌+◌, ◌^◌, ◌<◌, ◌≤◌, length, slice_index_or}
use Rattle.permission_map.specs.declared.points.Point.{Point}
use Rattle.permission_map.specs.Points.{page_of}
use Rattle.permission_map.proofs.points.before_within.Given as goal

abbrev pub invariant-loop-left : goal.invariant-loop-left
invariant-loop-left l = record {
  most : l.left ≤ l.bits;
  inside : l.low ≤ length l.points;
  room : l.low + 2 ^ l.left ≤ 2 ^ l.bits;
  front : (k : ℕ) (d : Point) → k < l.low → page_of (slice_index_or l.points k d) < l.page;
  rest : (k : ℕ) (d : Point) → l.low + 2 ^ l.left ≤ k + 1 → k < length l.points → l.page ≤ page_of (slice_index_or l.points k d);
}

abbrev pub decreases-loop-left : goal.decreases-loop-left
decreases-loop-left l = l.left
