use Rattle.std.proofs.Common.{◌≤◌, ◌+◌, ◌*◌, length, drop, cond}
use Rattle.pmp_encoding.specs.declared.perm.Perm.TheVariants.{ReadWriteExecute}
use Rattle.permission_map.specs.Runs.{view_of_runs}
use Rattle.pmp_encoding.specs.Views.{SameView}
use Rattle.platforms.proofs.ShortNames.{is_among}
use Rattle.platforms.proofs.permissions.put_memory.Given as goal

abbrev pub invariant-loop-i : goal.invariant-loop-i
invariant-loop-i l = record {
  inside : l.i ≤ length l.ram;
  few : length l.perms + 2 * l.i ≤ 2 * length l.ram + length l.fn.perms;
  view : SameView (view_of_runs l.perms) (λ page. cond (is_among (drop l.i l.ram) page) ReadWriteExecute (view_of_runs l.fn.perms page));
}

abbrev pub decreases-loop-i : goal.decreases-loop-i
decreases-loop-i l = l.i
