-- The registers have extents, so that none of their values is reserved.
use Rattle.std.proofs.Common.{refl}
use Rattle.pmp_match.proofs.Matched.{all_defined}
use Rattle.register_audit.proofs.ByMode.{all_given}
use Rattle.register_audit.proofs.differences.differences_of.Goals as goal

pub unreachable-requires : goal.unreachable-requires
unreachable-requires c =
    let is = c.in_default.ensures.reserved in
    all_defined c.args.registers.now c.requires.0 c.requires.1 c.in_default.field-0.place is.inside c.in_default.field-0.value is.value.has

pub stretches-requires : goal.stretches-requires
stretches-requires c = rw (c.as_slice.ensures.value, c.in_ok-given.ensures)
    (all_given c.args.registers.now c.args.mode _ (c.in-Ok.extents, c.in-Ok.ensures.extents, refl))
