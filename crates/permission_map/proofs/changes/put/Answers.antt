use Rattle.std.proofs.Common.{◌∙◌, ◌≡◌, ◌≤◌, ◌+◌, ap, arith, take, drop, length}
use Rattle.permission_map.proofs.PointLists.{inserted_front, inserted_back}
use Rattle.permission_map.proofs.changes.put.Goals as goal

pub returns-clause-front : goal.returns-clause-front
returns-clause-front c =
    let inside : c.args.at ≤ length c.args.points.now.items = omega (arith, c.args.points.now.ok.0) in
    ap (take (c.args.at + 1)) c.in-Ok.ensures.items ∙ inserted_front c.args.points.now.items c.args.at c.args.point inside

pub returns-clause-back : goal.returns-clause-back
returns-clause-back c =
    let inside : c.args.at ≤ length c.args.points.now.items = omega (arith, c.args.points.now.ok.0) in
    let same : c.args.end ≡ c.args.at = omega arith in
    ap (drop (c.args.end + 1)) c.in-Ok.ensures.items ∙ inserted_back c.args.points.now.items c.args.at c.args.end c.args.point inside same
