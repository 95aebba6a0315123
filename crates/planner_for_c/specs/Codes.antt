-- The codes that C gets: of refusals, and of the outcome of an access.
use Rattle.std.specs.Prelude.{ℕ, ℤ, negsuc, pos, Result, Ok, Err}
use Rattle.pmp_encoding.specs.declared.fault.EncodingFault.{EncodingFault}
use Rattle.pmp_encoding.specs.declared.fault.EncodingFault.TheVariants.{ReservedPerm, Tor, Locked}
use Rattle.pmp_encoding.specs.declared.fault.EncodingFault.TheVariants.{ReservedBits, AddressBits}
use Rattle.pmp_encoding.specs.declared.fault.EncodingFault.TheVariants.{NoSuchCsr}
use Rattle.pmp_match.specs.declared.cause.Cause.{Cause}
use Rattle.pmp_match.specs.Causes.{cause_number}
use Rattle.planner_for_c.specs.declared.settings.SettingFault.{SettingFault}
use Rattle.planner_for_c.specs.declared.settings.SettingFault.TheVariants.{UnalignedBase}
use Rattle.planner_for_c.specs.declared.settings.SettingFault.TheVariants.{UnalignedSize}
use Rattle.planner_for_c.specs.declared.settings.SettingFault.TheVariants.{UnknownPerm, PastEnd}
use Rattle.planner_for_c.specs.declared.settings.SettingFault.TheVariants.{TooManyRanges}
use Rattle.planner_for_c.specs.declared.settings.NoMap.{NoMap}
use Rattle.planner_for_c.specs.declared.settings.NoMap.TheVariants.{Setting, Memory}

-- from -1 down, since negsuc n is -(n + 1)
abbrev pub fault_code : SettingFault → ℤ
fault_code UnalignedBase = negsuc 0
fault_code UnalignedSize = negsuc 1
fault_code UnknownPerm = negsuc 2
fault_code PastEnd = negsuc 3
fault_code TooManyRanges = negsuc 4

-- an allocation failed
abbrev pub no_memory : ℤ
no_memory = negsuc 5

abbrev pub refusal_code : NoMap → ℤ
refusal_code (Setting i fault) = fault_code fault
refusal_code Memory = no_memory

-- the index of the refused setting, or the previous value
abbrev pub place_of : NoMap → ℕ → ℕ
place_of (Setting i fault) old = i
place_of Memory old = old

-- no access has these words
abbrev pub unknown_access : ℤ
unknown_access = negsuc 6

-- the faults of a pair; a missing CSR is not one of them
abbrev pub pair_code : EncodingFault → ℤ
pair_code ReservedPerm = negsuc 10
pair_code Tor = negsuc 11
pair_code Locked = negsuc 12
pair_code ReservedBits = negsuc 13
pair_code AddressBits = negsuc 14
pair_code NoSuchCsr = negsuc 15

-- 64, which is not an exception code, if an access is allowed; otherwise the exception code
abbrev pub answer_code : Result (Unit {0}) Cause → ℤ
answer_code (Ok done) = pos 64
answer_code (Err cause) = pos (cause_number cause)
