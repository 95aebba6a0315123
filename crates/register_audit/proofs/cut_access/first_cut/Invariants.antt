-- The entries so far cut nothing.
use Rattle.std.proofs.Common.{ℕ, ◌<◌}
use Rattle.permission_map.specs.Runs.{view_of_runs}
use Rattle.register_audit.specs.Findings.{IsUncut}
use Rattle.register_audit.proofs.cut_access.first_cut.Given as goal

abbrev pub invariant-loop-i : goal.invariant-loop-i
invariant-loop-i l = (j : ℕ) → j < l.i → IsUncut (view_of_runs l.map) l.extents j
