use Rattle.std.proofs.Common.{◌∙◌, sym}
use Rattle.register_audit.proofs.Exponents.{exponent_of_is}
use Rattle.register_audit.proofs.block.exponent_of.Goals as goal

pub returns-clause-value : goal.returns-clause-value
returns-clause-value c = c.exponent_below.ensures.value ∙ sym (exponent_of_is c.args.size)
