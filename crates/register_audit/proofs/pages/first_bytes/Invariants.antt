-- The pages that begin in the stretches so far have what the extents give their first byte, and the others nothing.
use Rattle.std.proofs.Common.{[], ◌≡◌, ℕ, ◌*◌, ◌^◌, ◌<◌, ◌≤◌, drop}
use Rattle.pmp_encoding.specs.declared.perm.Perm.TheVariants.{NoAccess}
use Rattle.permission_map.specs.Runs.{view_of_runs}
use Rattle.pmp_match.specs.RegisterBytes.{perm_at}
use Rattle.map_table.specs.Stretches.{AreStretches}
use Rattle.register_audit.proofs.pages.first_bytes.Given as goal

abbrev pub invariant-loop-stretch : goal.invariant-loop-stretch
invariant-loop-stretch l =
    (at : ℕ) × AreStretches (view_of_runs []) l.extents at (drop l.stretch-index l.stretch-items) (2 ^ 56)
    × ((page : ℕ) → 4096 * page < at → view_of_runs l.map page ≡ perm_at l.extents (4096 * page))
    × ((page : ℕ) → at ≤ 4096 * page → page < 2 ^ 44 → view_of_runs l.map page ≡ NoAccess)
