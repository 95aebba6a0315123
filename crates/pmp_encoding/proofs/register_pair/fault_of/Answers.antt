-- What the prover finds by itself, written down for the edits that break it.
use Rattle.std.proofs.Common.{rules}
use Rattle.pmp_encoding.proofs.register_pair.fault_of.Goals as goal

pub returns-else-address-clause-least : goal.returns-else-address-clause-least
returns-else-address-clause-least c = search rules

pub returns-else-address-clause-clear : goal.returns-else-address-clause-clear
returns-else-address-clause-clear c = search rules

pub returns-then-cfg-ge32-clause-least : goal.returns-then-cfg-ge32-clause-least
returns-then-cfg-ge32-clause-least c = search rules

pub returns-then-cfg-eq1-clause-least : goal.returns-then-cfg-eq1-clause-least
returns-then-cfg-eq1-clause-least c = search rules
