use Rattle.std.proofs.Common.{ℕ, ◌<◌, subst}
use Rattle.permission_map.proofs.PointSets.{behind_from}
use Rattle.permission_map.proofs.points.up_to.Goals as goal

pub returns-then-page-clause-rest : goal.returns-then-page-clause-rest
returns-then-page-clause-rest c =
    behind_from c.args.points.now c.loop-to.to c.args.page _ c.requires.points c.loop-to-test.true
    (subst (λ (n : ℕ). c.args.page < n) c.page.ensures c.if-page.true)
