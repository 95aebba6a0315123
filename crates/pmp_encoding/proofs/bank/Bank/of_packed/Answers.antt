-- At most sixty-four entries are few enough.
use Rattle.std.proofs.Common.{arith}
use Rattle.pmp_encoding.proofs.Filled.{limit_most}
use Rattle.pmp_encoding.proofs.bank.Bank.of_packed.Goals as goal

pub unpacked-list-requires : goal.unpacked-list-requires
unpacked-list-requires c = omega (arith, limit_most c.args.limit, c.requires)
