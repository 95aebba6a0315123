use Rattle.std.proofs.Common.{◌+◌, ◌-◌, ◌∙◌, ap, take, drop, count_by}
use Rattle.pmp_encoding.specs.declared.perm.Perm.TheVariants.{NoAccess}
use Rattle.permission_map.specs.Points.{allows, standing, turns, turns_after}
use Rattle.permission_map.proofs.Turns.{begun_parts}
use Rattle.permission_map.proofs.points.begun_between.Goals as goal

pub returns : goal.returns
returns c =
    ap
    (λ n.
    count_by allows (turns (take c.args.from c.args.points.now))
    + (n + count_by allows (turns_after (standing NoAccess (take c.args.to c.args.points.now)) (drop c.args.to c.args.points.now))))
    (c.begun_in.ensures ∙ ap (λ p. count_by allows (turns_after p (take (c.args.to - c.args.from) (drop c.args.from c.args.points.now))))
    c.perm_after.ensures)
    ∙ begun_parts c.args.points.now c.args.from c.args.to c.requires.order
