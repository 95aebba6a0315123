-- The permissions that extents give the first byte of each page.
use Rattle.std.specs.Prelude.{◌≡◌, ℕ, ◌*◌, ◌^◌, ◌<◌, ◌≤◌, List, length}
use Rattle.pmp_encoding.specs.declared.extent.Extent.{Extent}
use Rattle.pmp_encoding.specs.declared.perm.Perm.TheVariants.{NoAccess}
use Rattle.pmp_encoding.specs.Views.{View}
use Rattle.permission_map.specs.declared.runs.Run.{Run}
use Rattle.permission_map.specs.Runs.{AreRuns, view_of_runs}
use Rattle.pmp_match.specs.RegisterBytes.{perm_at}

-- each page of the space has the permission that the extents give its first byte
abbrev pub HasFirstBytes : List Extent → View → Type 0
HasFirstBytes extents view = (page : ℕ) → page < 2 ^ 44 → view page ≡ perm_at extents (4096 * page)

-- the pages below some page have more than 4096 ranges, given the permissions of their first bytes
pub record IsTooFine (extents : List Extent) : Type 0 where
  pub runs : List Run
  pub are_runs : AreRuns runs
  pub many : 4096 < length runs
  pub to : ℕ
  pub below : (page : ℕ) → page < to → view_of_runs runs page ≡ perm_at extents (4096 * page)
  pub none : (page : ℕ) → to ≤ page → page < 2 ^ 44 → view_of_runs runs page ≡ NoAccess
