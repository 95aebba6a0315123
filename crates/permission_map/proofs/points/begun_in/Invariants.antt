use Rattle.std.proofs.Common.{◌≡◌, ◌≤◌, ◌+◌, length, count_by}
use Rattle.permission_map.specs.Points.{allows, turns_after}
use Rattle.permission_map.proofs.points.begun_in.Given as goal

abbrev pub invariant-points : goal.invariant-points
invariant-points l = record {
  counted : l.begun + count_by allows (turns_after l.standing l.rest) ≡ count_by allows (turns_after l.fn.before l.points);
  few : l.begun + length l.rest ≤ length l.points;
}

abbrev pub decreases-points : goal.decreases-points
decreases-points l = length l.rest
