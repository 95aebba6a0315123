-- What the prover finds by itself, written down for the edits that break it.
use Rattle.std.proofs.Common.{rules}
use Rattle.pmp_encoding.proofs.bank.Bank.entry.Goals as goal

pub entry_of-requires : goal.entry_of-requires
entry_of-requires c = search rules

pub returns : goal.returns
returns c = search rules
