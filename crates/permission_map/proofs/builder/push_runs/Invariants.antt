use Rattle.std.proofs.Common.{◌≡◌, ◌<◌, ◌^◌, ◌++◌, ◌∷◌, length}
use Rattle.permission_map.specs.Points.{RiseAfter, page_of, perm_of, runs_of, turns, turns_after}
use Rattle.permission_map.proofs.builder.push_runs.Given as goal

abbrev pub invariant-points : goal.invariant-points
invariant-points l = record {
  rise : RiseAfter (page_of l.turn) l.rest;
  inside : page_of l.turn < 2 ^ 44;
  pushed : l.runs.items ++ runs_of (l.turn ∷ turns_after (perm_of l.turn) l.rest) ≡ l.initial.runs.items ++ runs_of (turns l.points);
}

abbrev pub decreases-points : goal.decreases-points
decreases-points l = length l.rest
