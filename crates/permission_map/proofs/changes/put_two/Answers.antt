use Rattle.std.proofs.Common.{◌∙◌, ◌≤◌, ◌++◌, ◌∷◌, [], ap, arith, length, slice_set, ◌+◌}
use Rattle.permission_map.proofs.Opened.{opened}
use Rattle.permission_map.proofs.changes.put_two.Goals as goal

pub returns-clause-items : goal.returns-clause-items
returns-clause-items c =
    let old = c.args.points.now.items in
    let inside : c.args.at ≤ length c.args.points.now.items = omega (arith, c.args.points.now.ok.0) in
    let pushed = c.in-Ok-push.ensures.items ∙ ap (λ xs. xs ++ c.args.stop ∷ []) c.in-Ok.ensures.items in
    ap (λ xs. slice_set (slice_set xs c.args.at c.args.start) (c.args.at + 1) c.args.stop) c.copy_within.ensures.items
    ∙ opened old c.push-2.new.self.items c.args.at c.len-len.result c.args.start c.args.stop inside
    (omega (arith, c.len-len.ensures, c.args.points.now.ok.0)) pushed
