-- The extents of the registers are of whole words.
use Rattle.std.proofs.Common.{refl}
use Rattle.register_audit.proofs.ByMode.{all_given}
use Rattle.register_audit.specs.Maps.{refused, told}
use Rattle.register_audit.proofs.map.said_of.Goals as goal

pub said_of_extents-requires : goal.said_of_extents-requires
said_of_extents-requires c = rw (c.as_slice.ensures.value, c.in_ok-given.ensures)
    (all_given c.args.listing.now.registers c.args.mode _ (c.in-Ok.extents, c.in-Ok.ensures.extents, refl))

pub returns-in-Err-clause-said : goal.returns-in-Err-clause-said
returns-in-Err-clause-said c = refused _ c.in-Err.ensures.refused

pub returns-clause-said : goal.returns-clause-said
returns-clause-said c = told c.in-Ok.ensures.modelled _ (c.in-Ok.extents, c.in-Ok.ensures.extents, c.in_ok-given.ensures) _ _
    (rw c.as_slice.ensures.value at c.in_ok-said.ensures.said)
