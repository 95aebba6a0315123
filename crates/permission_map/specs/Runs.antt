-- A view stored as runs of pages.
use Rattle.std.specs.Prelude.{◌≡◌, ◌≢◌, ℕ, ◌+◌, ◌^◌, ◌<◌, ◌≤◌, cond, List, [], ◌∷◌, ⊤}
use Rattle.pmp_encoding.specs.declared.perm.Perm.{Perm}
use Rattle.pmp_encoding.specs.declared.perm.Perm.TheVariants.{NoAccess}
pub use Rattle.pmp_encoding.specs.Views.{in_range}
use Rattle.permission_map.specs.declared.runs.Run.{Run}

-- the first page after a run
abbrev pub end_of : Run → ℕ
end_of run = run.first + run.count

-- a run at or after the page `at`, if the page before `at` has the permission `before`
pub record IsRunAfter (at : ℕ) (before : Perm) (run : Run) : Type 0 where
  pub rising : at ≤ run.first
  pub maximal : at ≡ run.first → run.perm ≢ before
  pub some : 0 < run.count
  pub allows : run.perm ≢ NoAccess
  pub inside : end_of run ≤ 2 ^ 44

-- runs by ascending page, from `at` on, none of which can be merged: each starts after the end of
-- the previous one, or has another permission
abbrev pub AreRunsAfter : ℕ → Perm → List Run → Type 0
AreRunsAfter at before [] = ⊤
AreRunsAfter at before (run ∷ runs) = IsRunAfter at before run
    × AreRunsAfter (end_of run) run.perm runs

-- the maximal runs of a view of the space's 2 ^ 44 pages, by ascending page
abbrev pub AreRuns : List Run → Type 0
AreRuns runs = AreRunsAfter 0 NoAccess runs

-- the permission of each page: that of the run that contains it, or no access
abbrev pub view_of_runs : List Run → ℕ → Perm
view_of_runs [] page = NoAccess
view_of_runs (run ∷ runs) page = cond (in_range run.first run.count page) run.perm
    (view_of_runs runs page)
