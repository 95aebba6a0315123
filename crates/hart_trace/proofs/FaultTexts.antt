-- The number of a cause is one digit.
use Rattle.std.proofs.Common.{◌≡◌, ◌++◌, List, ℕ, take, get_or, codes, decimal, refl, arith}
use Rattle.std.proofs.lemmas.Fmt.{decimal_digit}
use Rattle.pmp_match.specs.declared.cause.Cause.{Cause}
use Rattle.pmp_match.specs.declared.cause.Cause.TheVariants.{FetchMisaligned, FetchFault, LoadMisaligned, LoadFault, StoreMisaligned, StoreFault}
use Rattle.pmp_match.specs.Causes.{cause_number}
use Rattle.hart_trace.specs.declared.lines.TheConstants.{FAULTS}

pub each_fault : (other : List ℕ) (cause : Cause) → take 9 (get_or FAULTS (cause_number cause) other) ≡ codes " fault " ++ decimal
    (cause_number cause) ++ codes "\n"
each_fault other FetchMisaligned = rw (decimal_digit (cause_number FetchMisaligned) (omega arith)) refl
each_fault other FetchFault = rw (decimal_digit (cause_number FetchFault) (omega arith)) refl
each_fault other LoadMisaligned = rw (decimal_digit (cause_number LoadMisaligned) (omega arith)) refl
each_fault other LoadFault = rw (decimal_digit (cause_number LoadFault) (omega arith)) refl
each_fault other StoreMisaligned = rw (decimal_digit (cause_number StoreMisaligned) (omega arith)) refl
each_fault other StoreFault = rw (decimal_digit (cause_number StoreFault) (omega arith)) refl
