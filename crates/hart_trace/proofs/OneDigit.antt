-- The number of a cause is one digit.
use Rattle.std.proofs.Common.{◌≡◌, ◌≤◌, take, get_or, refl, arith}
use Rattle.std.specs.Prelude.{Result, Ok, Err}
use Rattle.std.proofs.lemmas.Fmt.{decimal_digit}
use Rattle.pmp_match.specs.declared.cause.Cause.{Cause}
use Rattle.pmp_match.specs.declared.cause.Cause.TheVariants.{FetchMisaligned, FetchFault, LoadMisaligned, LoadFault, StoreMisaligned, StoreFault}
use Rattle.pmp_match.specs.Causes.{cause_number}
use Rattle.hart_trace.specs.declared.answers.Ending.{Ending}
use Rattle.hart_trace.specs.declared.answers.TheConstants.{ENDINGS}
use Rattle.hart_trace.specs.Answers.{answer_end, place_of}

-- the ending in the table is that of the answer
abbrev Ends : Ending → Result (Unit {0}) Cause → Type 0
Ends ending answer = (take ending.len ending.text ≡ answer_end answer) × (ending.len ≤ 16)

pub each_ends : (other : Ending) (answer : Result (Unit {0}) Cause) → Ends (get_or ENDINGS (place_of answer) other) answer
each_ends other (Ok done) = (refl, omega arith)
each_ends other (Err FetchMisaligned) = (rw (decimal_digit (cause_number FetchMisaligned) (omega arith)) refl, omega arith)
each_ends other (Err FetchFault) = (rw (decimal_digit (cause_number FetchFault) (omega arith)) refl, omega arith)
each_ends other (Err LoadMisaligned) = (rw (decimal_digit (cause_number LoadMisaligned) (omega arith)) refl, omega arith)
each_ends other (Err LoadFault) = (rw (decimal_digit (cause_number LoadFault) (omega arith)) refl, omega arith)
each_ends other (Err StoreMisaligned) = (rw (decimal_digit (cause_number StoreMisaligned) (omega arith)) refl, omega arith)
each_ends other (Err StoreFault) = (rw (decimal_digit (cause_number StoreFault) (omega arith)) refl, omega arith)
