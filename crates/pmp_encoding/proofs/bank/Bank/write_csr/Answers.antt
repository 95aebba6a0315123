-- What the prover finds by itself, written down for the edits that break it.
use Rattle.std.proofs.Common.{rules}
use Rattle.pmp_encoding.proofs.bank.Bank.write_csr.Goals as goal

pub put_address-requires-clause-small : goal.put_address-requires-clause-small
put_address-requires-clause-small c = search rules

pub returns-else-value-clause-wide : goal.returns-else-value-clause-wide
returns-else-value-clause-wide c = search rules

pub returns-else-value-clause-address : goal.returns-else-value-clause-address
returns-else-value-clause-address c = search rules
