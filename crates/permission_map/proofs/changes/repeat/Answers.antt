use Rattle.std.proofs.Common.{arith}
use Rattle.permission_map.proofs.Changed.{repeated_more}
use Rattle.permission_map.proofs.changes.repeat.Goals as goal

pub loop-at-preserved : goal.loop-at-preserved
loop-at-preserved c =
    let inv = c.loop-at.invariant in
    record {
      order = omega (arith, inv.order);
      inside = omega (arith, c.loop-at-test.true);
      len = inv.len;
      items =
          repeated_more c.args.points.now.items c.loop-at.points.items c.args.from c.loop-at.at c.args.perm c.with_perm.result c.index.result.now inv.order
          (omega (arith, c.loop-at-test.true, c.requires.inside, c.args.points.now.ok.0)) inv.items c.index.ensures c.with_perm.ensures;
      room = inv.room;
    }
