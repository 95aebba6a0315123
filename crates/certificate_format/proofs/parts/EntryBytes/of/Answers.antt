-- The bytes are those of the pair that they hold.
use Rattle.std.proofs.Common.{drop, arith}
use Rattle.certificate_format.proofs.Numbers.{bytes_drop, number_lt64}
use Rattle.certificate_format.proofs.CostBytes.{pair_spelled}
use Rattle.certificate_format.proofs.parts.EntryBytes.of.Goals as goal

pub returns-clause-spelled : goal.returns-clause-spelled
returns-clause-spelled c = pair_spelled c.args.bytes.now (λ i. omega (arith, c.type_inv.bytes i)) c.requires

pub returns-clause-fits : goal.returns-clause-fits
returns-clause-fits c = number_lt64 (drop 1 c.args.bytes.now) (bytes_drop 1 c.args.bytes.now (λ i. omega (arith, c.type_inv.bytes i)))
