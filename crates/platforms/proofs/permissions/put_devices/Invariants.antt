use Rattle.std.proofs.Common.{◌≤◌, ◌+◌, ◌*◌, length, drop}
use Rattle.permission_map.specs.Runs.{view_of_runs}
use Rattle.pmp_encoding.specs.Views.{SameView}
use Rattle.platforms.specs.Platform.{device_perm}
use Rattle.platforms.proofs.permissions.put_devices.Given as goal

abbrev pub invariant-loop-i : goal.invariant-loop-i
invariant-loop-i l = record {
  inside : l.i ≤ length l.devices;
  few : length l.perms + 2 * l.i ≤ 2 * length l.devices;
  view : SameView (view_of_runs l.perms) (device_perm (drop l.i l.devices));
}

abbrev pub decreases-loop-i : goal.decreases-loop-i
decreases-loop-i l = l.i
