-- Bits of no permission have W without R.
use Rattle.std.proofs.Common.{◌≡◌, ◌%◌, arith}
use Rattle.pmp_encoding.specs.declared.perm.Perm.TheVariants.{NoAccess, Read, ReadWrite, Execute, ReadExecute, ReadWriteExecute}
use Rattle.pmp_encoding.proofs.register_pair.decoded.Goals as goal

pub returns-in_default-from_bits-clause-fault : goal.returns-in_default-from_bits-clause-fault
returns-in_default-from_bits-clause-fault c =
    let none = c.in_default-from_bits.ensures.none in
    let reserved : c.args.cfg % 4 ≡ 2 = omega (arith, none NoAccess, none Read, none ReadWrite, none Execute, none ReadExecute, none ReadWriteExecute) in
    absurd (c.in_default.ensures.clear.0 reserved)
