use Rattle.std.proofs.Common.{◌≤◌, ◌+◌, ◌*◌, length, drop, cond, ◌||◌}
use Rattle.pmp_encoding.specs.declared.perm.Perm.TheVariants.{NoAccess}
use Rattle.permission_map.specs.Runs.{view_of_runs}
use Rattle.permission_map.specs.Views.{SameView}
use Rattle.platforms.specs.Platform.{platform_perm}
use Rattle.enclave_table.proofs.ShortNames.{any_private}
use Rattle.enclave_table.proofs.table.Table.host_view.Given as goal
use Rattle.platforms.specs.Ranges.{has_page}

abbrev pub invariant-loop-id : goal.invariant-loop-id
invariant-loop-id l = record {
  inside : l.id ≤ 64;
  few : length l.map + 2 * l.id ≤ 258;
  view : SameView (view_of_runs l.map) (λ page. cond (has_page l.self.table.layout.monitor page || any_private (drop l.id l.self.table.enclaves) page) NoAccess
      (platform_perm l.self.table.layout page));
}

abbrev pub decreases-loop-id : goal.decreases-loop-id
decreases-loop-id l = l.id
