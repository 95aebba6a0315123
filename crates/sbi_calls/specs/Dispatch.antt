-- The host's calls, by extension.
use Rattle.std.specs.Prelude.{◌≡◌, ◌%◌, ◌==◌, Bool, Option, Some, None, if◌then◌else◌}
use Rattle.sbi_calls.specs.declared.caller.Caller.{Caller}
use Rattle.sbi_calls.specs.declared.error.SbiError.TheVariants.{NotSupported}
use Rattle.sbi_calls.specs.declared.extension.Extension.{Extension}
use Rattle.sbi_calls.specs.declared.extension.Extension.TheVariants.{Base, Time, Ipi, Rfence, Hsm}
use Rattle.sbi_calls.specs.declared.extension.Extension.TheVariants.{Srst, Console, Stops}
use Rattle.sbi_calls.specs.declared.extension.Extension.TheVariants as extensions
use Rattle.sbi_calls.specs.declared.harts.Harts.{Harts}
use Rattle.sbi_calls.specs.declared.host_call.HostCall.{HostCall}
use Rattle.sbi_calls.specs.declared.outcome.Outcome.{Outcome}
use Rattle.sbi_calls.specs.declared.outcome.Outcome.TheVariants.{Error, Monitor, PutByte}
use Rattle.sbi_calls.specs.declared.outcome.Outcome.TheVariants.{SetTimer}
use Rattle.sbi_calls.specs.Base.{base_outcome, stops_outcome}
use Rattle.sbi_calls.specs.Extensions.{extension_of}
use Rattle.sbi_calls.specs.Hsm.{hsm_outcome}
use Rattle.sbi_calls.specs.Remote.{ipi_outcome, rfence_outcome}
use Rattle.sbi_calls.specs.Srst.{srst_outcome}

-- the timer extension (chapter 6)
abbrev pub time_outcome : HostCall → Outcome
time_outcome call = if call.function == 0 then SetTimer call.a0 else Error NotSupported

-- the only implemented function of the debug console (version 2.0, chapter 12): it writes a byte
abbrev pub console_outcome : HostCall → Outcome
console_outcome call = if call.function == 2 then PutByte (call.a0 % 256) else Error NotSupported

-- the call starts a hart
abbrev pub IsStart : HostCall → Type 0
IsStart call = (extension_of call.extension ≡ Some Hsm) × (call.function ≡ 0)

-- the outcome of a call, where `executable` tells whether the host may execute at the start address
abbrev pub outcome_by : Option Extension → HostCall → Caller → Harts → Bool → Outcome
outcome_by (Some Base) call caller harts executable = base_outcome call.function call.a0 caller
outcome_by (Some Time) call caller harts executable = time_outcome call
outcome_by (Some Ipi) call caller harts executable = ipi_outcome call harts
outcome_by (Some Rfence) call caller harts executable = rfence_outcome call harts
outcome_by (Some Hsm) call caller harts executable = hsm_outcome call harts executable
outcome_by (Some Srst) call caller harts executable = srst_outcome call
outcome_by (Some Console) call caller harts executable = console_outcome call
outcome_by (Some extensions.Monitor) call caller harts executable = Monitor
outcome_by (Some Stops) call caller harts executable = stops_outcome call.function caller
outcome_by None call caller harts executable = Error NotSupported

-- the outcome of a call by the number of its extension, in a7
abbrev pub outcome_of : HostCall → Caller → Harts → Bool → Outcome
outcome_of call caller harts executable =
    outcome_by (extension_of call.extension) call caller harts executable
