-- Exception codes of failed accesses.
use Rattle.std.specs.Prelude.{ℕ}
use Rattle.pmp_match.specs.declared.access.Kind.{Kind}
use Rattle.pmp_match.specs.declared.access.Kind.TheVariants.{Fetch, Load, Store}
use Rattle.pmp_match.specs.declared.cause.Cause.{Cause}
use Rattle.pmp_match.specs.declared.cause.Cause.TheVariants.{FetchMisaligned, FetchFault}
use Rattle.pmp_match.specs.declared.cause.Cause.TheVariants.{LoadMisaligned, LoadFault}
use Rattle.pmp_match.specs.declared.cause.Cause.TheVariants.{StoreMisaligned, StoreFault}

-- the exception code
abbrev pub cause_number : Cause → ℕ
cause_number FetchMisaligned = 0
cause_number FetchFault = 1
cause_number LoadMisaligned = 4
cause_number LoadFault = 5
cause_number StoreMisaligned = 6
cause_number StoreFault = 7

-- the cause of a misaligned access
abbrev pub misaligned : Kind → Cause
misaligned Fetch = FetchMisaligned
misaligned Load = LoadMisaligned
misaligned Store = StoreMisaligned

-- the cause of a denied access
abbrev pub access_fault : Kind → Cause
access_fault Fetch = FetchFault
access_fault Load = LoadFault
access_fault Store = StoreFault
