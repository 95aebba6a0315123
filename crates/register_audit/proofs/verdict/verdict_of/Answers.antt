-- The extents of the registers are of whole words; what is found of them is so of the registers.
use Rattle.std.proofs.Common.{refl, sym}
use Rattle.permission_map.specs.Runs.{view_of_runs}
use Rattle.register_audit.proofs.ByMode.{all_given, means_by}
use Rattle.register_audit.proofs.verdict.verdict_of.Goals as goal

pub compare-requires : goal.compare-requires
compare-requires c = rw (c.as_slice.ensures.value, c.in_ok-given.ensures)
    (all_given c.args.registers.now c.args.mode _ (c.in-Ok.extents, c.in-Ok.ensures.extents, refl))

pub returns-in-Means : goal.returns-in-Means
returns-in-Means c = (
  means_by c.args.mode c.args.registers.now (view_of_runs c.args.map.now) _ (c.in-Ok.extents, c.in-Ok.ensures.extents, c.in_ok-given.ensures)
      (rw (c.as_slice.ensures.value, c.in-Means.is) at c.in_ok-compare.ensures),
  sym c.count_on.ensures,
)
