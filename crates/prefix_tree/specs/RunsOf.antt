-- The runs of a view.
use Rattle.std.specs.Prelude.{ℕ, List}
use Rattle.pmp_encoding.specs.declared.perm.Perm.{Perm}
use Rattle.permission_map.specs.declared.runs.Run.{Run}
use Rattle.permission_map.specs.Runs.{AreRuns, view_of_runs}
use Rattle.pmp_encoding.specs.Views.{SameView}

-- the list is the maximal runs of the view
pub record AreRunsOf (view : ℕ → Perm) (runs : List Run) : Type 0 where
  pub are_runs : AreRuns runs
  pub view_is : SameView (view_of_runs runs) view
