use Rattle.pmp_encoding.proofs.Decoded.{IsDecoded}
use Rattle.pmp_encoding.proofs.bank.Bank.holding.Given as goal

abbrev pub invariant-loop-i : goal.invariant-loop-i
invariant-loop-i l = IsDecoded l.words l.addresses l.i l.extents l.used
