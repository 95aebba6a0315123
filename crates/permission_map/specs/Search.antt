-- The run that contains a page, otherwise the next one after it.
use Rattle.std.specs.Prelude.{◌≡◌, ◌≢◌, ℕ, ◌<◌, ◌≤◌, List, Contains}
use Rattle.pmp_encoding.specs.declared.perm.Perm.TheVariants.{NoAccess}
use Rattle.permission_map.specs.declared.runs.Run.{Run}
use Rattle.permission_map.specs.Runs.{end_of, IsRunAfter, view_of_runs}

-- the first of the runs that ends after the page: no page between them has a permission, and the
-- view changes at the run's end
pub record IsNext (runs : List Run) (page : ℕ) (run : Run) : Type 0 where
  pub one_of : Contains runs run
  pub is_run : IsRunAfter 0 NoAccess run
  pub behind : page < end_of run
  pub none_between : (q : ℕ) → page ≤ q → q < run.first → view_of_runs runs q ≡ NoAccess
  pub one_perm : (q : ℕ) → run.first ≤ q → q < end_of run → view_of_runs runs q ≡ run.perm
  pub changes : view_of_runs runs (end_of run) ≢ run.perm
