use Rattle.permission_map.specs.Runs.{view_of_runs}
use Rattle.map_table.proofs.Joined.{one_more}
use Rattle.map_table.proofs.stretch.stretches.Goals as goal

pub loop-at-preserved : goal.loop-at-preserved
loop-at-preserved c = record {
  inside = c.stretch_from-stretch.ensures.stretch.inside;
  are = rw c.in_ok-push.ensures.items (one_more (view_of_runs c.args.map.now) c.args.extents.now 0 c.loop-at.at c.loop-at.all.items
      c.stretch_from-stretch.result c.loop-at.invariant.are c.stretch_from-stretch.ensures.first
      (rw c.in_ok-tree.ensures at c.stretch_from-stretch.ensures.stretch));
}
