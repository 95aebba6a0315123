use Rattle.std.proofs.Common.{◌∙◌, ap, map, refl, subst}
use Rattle.platforms.specs.Ranges.{EachApart}
use Rattle.input_files.proofs.Overlaps.{bounds_are, bounds_of}
use Rattle.input_files.proofs.platform.breach_by.Goals as goal

pub unreachable-requires : goal.unreachable-requires
unreachable-requires c =
    c.requires c.in-Overlap.is
    (subst EachApart (ap (map bounds_of) (c.as_slice.ensures.value ∙ c.in_ok-ranges-in-Overlap.ensures) ∙ bounds_are c.args.ram.now c.args.devices.now)
    (c.in_default.ensures.none refl))
