-- The number is made of the entry's three parts.
use Rattle.pmp_encoding.proofs.PackedEntries.{entry_is, has_bits, has_block, number_is}
use Rattle.pmp_encoding.proofs.packed_entry.PackedEntry.new.Goals as goal

pub invariant_of-result : goal.invariant_of-result
invariant_of-result c =
    let is = number_is c.args.entry _ _ _ c.from-size.ensures c.from-bits.ensures c.bits.ensures.value in
    (has_block c.args.entry _ is, (has_bits c.args.entry _ is, tt))

pub returns : goal.returns
returns c = entry_is c.args.entry _ (number_is c.args.entry _ _ _ c.from-size.ensures c.from-bits.ensures c.bits.ensures.value) _
