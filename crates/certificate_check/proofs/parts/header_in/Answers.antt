use Rattle.std.proofs.Common.{ℕ, List, refl, subst}
use Rattle.certificate_format.specs.Faults.{HeaderFault}
use Rattle.certificate_check.proofs.parts.header_in.Goals as goal

pub returns-in-Err : goal.returns-in-Err
returns-in-Err c = subst (λ (xs : List ℕ). HeaderFault xs c.in-Err.fault) c.new-reader.ensures ((c.in-Err.ensures.fault c.in-Err.fault).0 refl)
