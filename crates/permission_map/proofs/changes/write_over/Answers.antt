use Rattle.std.proofs.Common.{arith}
use Rattle.permission_map.proofs.Changed.{written}
use Rattle.permission_map.proofs.changes.write_over.Goals as goal

pub returns-clause-items : goal.returns-clause-items
returns-clause-items c =
    written c.args.points.now.items c.repeat.new.points.items c.args.from c.args.to c.args.perm c.args.start c.args.stop c.requires.order
    (omega (arith, c.requires.inside, c.args.points.now.ok.0)) c.repeat.ensures.items
