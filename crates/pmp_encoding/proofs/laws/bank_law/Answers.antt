-- The clauses are the lemmas.
use Rattle.pmp_encoding.specs.Limits.{limit_number}
use Rattle.pmp_encoding.specs.Registers.{pairs_from}
use Rattle.pmp_encoding.proofs.Meant.{bank_some, bank_short}
use Rattle.pmp_encoding.proofs.Pairs.{one_list}
use Rattle.pmp_encoding.proofs.laws.bank_law.Goals as goal

pub returns : goal.returns
returns c = record { some = bank_some; one = λ bank. one_list (pairs_from bank.words bank.addresses 0 (limit_number bank.limit)); short = bank_short }
