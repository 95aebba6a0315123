use Rattle.std.proofs.Common.{◌+◌, ◌*◌, ◌<◌, ◌≤◌}
use Rattle.pmp_match.proofs.segments.Segments.last_begun.Given as goal

-- the steps that are left stay among the segments
abbrev pub invariant-loop-step : goal.invariant-loop-step
invariant-loop-step l = (l.at < 128) × (l.at + 4 * l.step ≤ 128)

abbrev pub decreases-loop-step : goal.decreases-loop-step
decreases-loop-step l = l.step
