use Rattle.std.proofs.Common.{◌≡◌, ℕ, ◌≤◌, length}
use Rattle.permission_map.specs.Runs.{view_of_runs}
use Rattle.certificate_check.specs.Later.{AreLaterRuns}
use Rattle.certificate_check.proofs.runs.runs_from.Given as goal

abbrev pub invariant-loop-rest : goal.invariant-loop-rest
invariant-loop-rest l = record {
  later : AreLaterRuns l.rest;
  same : (at : ℕ) → l.page ≤ at → view_of_runs l.rest at ≡ view_of_runs l.runs at;
}

abbrev pub decreases-loop-rest : goal.decreases-loop-rest
decreases-loop-rest l = length l.rest
