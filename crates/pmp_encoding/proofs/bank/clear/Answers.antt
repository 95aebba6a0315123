-- The registers below the limit are made zero, and the others are so.
use Rattle.pmp_encoding.proofs.Filled.{zero_all, zero_sixteen}
use Rattle.pmp_encoding.proofs.bank.clear.Goals as goal

pub returns-in-Sixteen : goal.returns-in-Sixteen
returns-in-Sixteen c = rw c.copy_from_slice.ensures.after (zero_sixteen c.args.addresses.now c.told-addresses (rw c.in-Sixteen.is at c.requires.unused))

pub returns-in-SixtyFour : goal.returns-in-SixtyFour
returns-in-SixtyFour c = zero_all
