-- The host's calls that query SBI or the hart and change nothing.
use Rattle.std.specs.Prelude.{ℕ, ◌==◌, if◌then◌else◌, is_some}
use Rattle.sbi_calls.specs.declared.caller.Caller.{Caller}
use Rattle.sbi_calls.specs.declared.outcome.Outcome.{Outcome}
use Rattle.sbi_calls.specs.declared.outcome.Outcome.TheVariants.{Value, Error}
use Rattle.sbi_calls.specs.declared.error.SbiError.TheVariants.{NotSupported}
use Rattle.sbi_calls.specs.Extensions.{extension_of}

-- 1 if there is an extension of the number, and 0 if there is not
abbrev pub is_offered : ℕ → ℕ
is_offered number = if is_some (extension_of number) then 1 else 0

-- the functions of the base extension (chapter 4): the version of SBI, 1.0, with the minor number
-- in bits 23:0; the number and the version of the implementation; whether there is an extension;
-- and three registers of the hart
abbrev pub base_outcome : ℕ → ℕ → Caller → Outcome
base_outcome function a0 caller =
    if function == 0 then Value 0x1000000
    else if function == 1 then Value 0x08454e43
    else if function == 2 then Value 0
    else if function == 3 then Value (is_offered a0)
    else if function == 4 then Value caller.vendor
    else if function == 5 then Value caller.architecture
    else if function == 6 then Value caller.implementation
    else Error NotSupported

-- the functions that report why an enclave stopped on this hart
abbrev pub stops_outcome : ℕ → Caller → Outcome
stops_outcome function caller =
    if function == 0 then Value caller.stop_cause
    else if function == 1 then Value caller.stop_value
    else Error NotSupported
