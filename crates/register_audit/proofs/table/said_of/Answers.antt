-- The extents of the registers are of whole words.
use Rattle.register_audit.proofs.ByMode.{all_entries}
use Rattle.register_audit.specs.Tables.{refused, shown}
use Rattle.register_audit.proofs.table.said_of.Goals as goal

pub extent_table-requires : goal.extent_table-requires
extent_table-requires c = rw (c.as_slice.ensures.value, c.in_ok-given.ensures)
    (all_entries c.args.listing.now.registers c.args.mode c.in-Ok.extents c.in-Ok.ensures.extents)

pub returns-in-Err : goal.returns-in-Err
returns-in-Err c = refused c.in-Err.ensures.refused

pub returns : goal.returns
returns c = shown c.in-Ok.ensures.modelled c.in-Ok.extents c.in-Ok.ensures.extents
