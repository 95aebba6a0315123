-- The clauses are the lemmas.
use Rattle.pmp_encoding.proofs.Faulty.{entry_faultless}
use Rattle.pmp_encoding.proofs.Meant.{off_is, means_or_off}
use Rattle.pmp_encoding.proofs.laws.faultless_law.Goals as goal

pub returns : goal.returns
returns c = record { entry = entry_faultless; off = off_is; all = means_or_off }
