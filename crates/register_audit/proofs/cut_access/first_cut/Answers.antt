-- One entry more that cuts nothing, and no entry after the last.
use Rattle.std.proofs.Common.{arith}
use Rattle.permission_map.specs.Runs.{view_of_runs}
use Rattle.register_audit.proofs.Cut.{uncut_all, uncut_more}
use Rattle.register_audit.proofs.cut_access.first_cut.Goals as goal

pub loop-i-preserved : goal.loop-i-preserved
loop-i-preserved c = uncut_more (view_of_runs c.args.map.now) c.args.extents.now c.loop-i.i c.loop-i.invariant c.in_default.ensures

pub returns : goal.returns
returns c = uncut_all (view_of_runs c.args.map.now) c.args.extents.now c.loop-i.i (omega (arith, c.loop-i-test.false)) c.loop-i.invariant
