use Rattle.std.proofs.Common.{arith}
use Rattle.permission_map.proofs.PointSets.{as_many_as_pages}
use Rattle.permission_map.proofs.points.search_before.Goals as goal

pub before_within-requires-in_default-clause-few : goal.before_within-requires-in_default-clause-few
before_within-requires-in_default-clause-few c = omega (arith, as_many_as_pages c.args.points.now c.requires.points)
