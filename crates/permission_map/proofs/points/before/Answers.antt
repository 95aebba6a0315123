-- Where the last point comes before the page, so do all, and where the last but one does, so do all but the last.
use Rattle.std.proofs.Common.{◌≡◌, ◌∙◌, ◌∷◌, ◌++◌, [], length, ap, sym, arith, append_assoc}
use Rattle.permission_map.proofs.PointSets.{front_to}
use Rattle.permission_map.proofs.points.before.Goals as goal

pub returns-then-page-clause-front : goal.returns-then-page-clause-front
returns-then-page-clause-front c =
    let is = c.in-Some.ensures.cases in
    front_to c.args.points.now c.in-Some.others.now [] c.in-Some.last.now (length c.args.points.now) c.args.page c.requires.points is.0 (sym is.1)
    (omega (arith, c.page.ensures, c.if-page.true))

pub returns-in-Some-split_last-clause-front : goal.returns-in-Some-split_last-clause-front
returns-in-Some-split_last-clause-front c =
    let others = c.in-Some.others.now in
    let last = c.in-Some.last.now ∷ [] in
    let before = c.in-Some-split_last.field-0-1.now in
    let point = c.in-Some-split_last.point.now in
    let is = c.in-Some-split_last.ensures.cases in
    let parts : c.args.points.now ≡ before ++ point ∷ last = c.in-Some.ensures.cases.0 ∙ ap (λ l. l ++ last) is.0 ∙ append_assoc before (point ∷ []) last in
    front_to c.args.points.now before last point (length others) c.args.page c.requires.points parts (sym is.1) (omega (arith, c.if-page-2.true))
