use Rattle.std.proofs.Common.{◌∙◌, suc, take, ap, arith, ◌-◌, ◌≡◌}
use Rattle.pmp_encoding.specs.declared.perm.Perm.TheVariants.{NoAccess}
use Rattle.permission_map.specs.Points.{standing}
use Rattle.permission_map.proofs.PointRuns.{standing_last}
use Rattle.permission_map.proofs.points.perm_after.Goals as goal

pub returns : goal.returns
returns c =
    let up : suc (c.args.count - 1) ≡ c.args.count = omega arith in
    c.perm.ensures ∙ standing_last NoAccess c.args.points.now (c.args.count - 1) _ (omega arith) ∙ ap (λ n. standing NoAccess (take n c.args.points.now)) up
