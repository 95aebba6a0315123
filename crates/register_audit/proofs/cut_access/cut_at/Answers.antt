-- An end of an entry that is no multiple of eight stands in the middle of eight aligned bytes.
use Rattle.std.proofs.Common.{◌≡◌, ◌∙◌, ◌+◌, ◌-◌, ◌≤◌, ap, sym, arith}
use Rattle.permission_map.specs.Runs.{view_of_runs}
use Rattle.register_audit.proofs.Cut.{cut_found, end_four}
use Rattle.register_audit.proofs.cut_access.cut_at.Goals as goal
use Rattle.pmp_match.specs.Kinds.{holds}
use Rattle.pmp_match.specs.declared.access.Kind.TheVariants.{Load}

pub overflow_sub-at : goal.overflow_sub-at
overflow_sub-at c =
    let four = end_four c.args.extents.now c.args.i c.args.end c.requires.words c.requires.i c.requires.end in
    omega (arith, four, c.if-end-eq0.false)

pub returns-then-is_first-clause-some : goal.returns-then-is_first-clause-some
returns-then-is_first-clause-some c =
    let four = end_four c.args.extents.now c.args.i c.args.end c.requires.words c.requires.i c.requires.end in
    let some : 4 ≤ c.args.end = omega (arith, four, c.if-end-eq0.false) in
    let at : c.args.end ≡ c.args.end - 4 + 4 = omega (arith, some) in (
      sym at,
      cut_found (view_of_runs c.args.map.now) c.args.extents.now c.args.i c.args.end
          (c.args.end - 4) c.requires.words c.requires.i c.requires.end c.requires.inside c.if-end-eq0.false at
          (ap (λ perm. holds perm Load) (sym c.get.ensures) ∙ sym c.can_read.ensures ∙ c.if-not-can_read.false)
          (λ x is. (c.is_first.ensures x is).0 c.if-is_first.true),
    )
