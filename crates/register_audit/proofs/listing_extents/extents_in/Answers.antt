use Rattle.std.proofs.Common.{sym}
use Rattle.register_audit.specs.NoMeaning.{reserved, unmodelled}
use Rattle.register_audit.proofs.listing_extents.extents_in.Goals as goal

pub returns-in-Some-clause-refused : goal.returns-in-Some-clause-refused
returns-in-Some-clause-refused c = unmodelled c.in-Some.bit (sym c.in-Some.ensures)

pub returns-in-Err-clause-refused : goal.returns-in-Err-clause-refused
returns-in-Err-clause-refused c = reserved (sym c.in_default.ensures) c.in-Err.found c.in-Err.ensures.reserved
