-- The bytes are those of the six numbers that they hold.
use Rattle.std.proofs.Common.{arith}
use Rattle.certificate_format.proofs.CostBytes.{costs_spelled, costs_fit}
use Rattle.certificate_format.proofs.costs.BranchCosts.of.Goals as goal

pub returns-clause-spelled : goal.returns-clause-spelled
returns-clause-spelled c = costs_spelled c.args.bytes.now (λ i. omega (arith, c.type_inv.bytes i)) c.requires

pub returns-clause-fits : goal.returns-clause-fits
returns-clause-fits c = costs_fit c.args.bytes.now (λ i. omega (arith, c.type_inv.bytes i))
