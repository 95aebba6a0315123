-- The host's requests to other harts. (SBI, chapters 7 and 8)
use Rattle.std.specs.Prelude.{ℕ, ◌==◌, Option, Some, None, if◌then◌else◌, bit_and}
use Rattle.sbi_calls.specs.declared.error.SbiError.TheVariants.{InvalidParam, NotSupported}
use Rattle.sbi_calls.specs.declared.harts.Harts.{Harts}
use Rattle.sbi_calls.specs.declared.host_call.HostCall.{HostCall}
use Rattle.sbi_calls.specs.declared.outcome.Outcome.{Outcome}
use Rattle.sbi_calls.specs.declared.outcome.Outcome.TheVariants.{Error, Interrupt}
use Rattle.sbi_calls.specs.declared.outcome.Outcome.TheVariants.{FenceInstructions}
use Rattle.sbi_calls.specs.declared.outcome.Outcome.TheVariants.{FenceTranslations}
use Rattle.sbi_calls.specs.HartLists.{hart_list}
use Rattle.sbi_calls.specs.Harts.{hart_count}

-- the harts that a call names with its mask in a0 and its base in a1
abbrev pub harts_of_call : HostCall → Harts → Option ℕ
harts_of_call call harts = hart_list (hart_count harts) call.a0 call.a1

-- an interrupt for the started ones of these harts
abbrev pub interrupt_of : Option ℕ → Harts → Outcome
interrupt_of (Some listed) harts = Interrupt (bit_and listed harts.started)
interrupt_of None harts = Error InvalidParam

-- the IPI extension has one function
abbrev pub ipi_outcome : HostCall → Harts → Outcome
ipi_outcome call harts =
    if call.function == 0 then interrupt_of (harts_of_call call harts) harts
    else Error NotSupported

-- the fence of a function: of instructions (0), of translations (1), and of those of an address
-- space (2); the other functions are for guests
abbrev pub fence_of : Option ℕ → ℕ → Outcome
fence_of (Some listed) function =
    if function == 0 then FenceInstructions listed
    else if function == 1 then FenceTranslations listed
    else if function == 2 then FenceTranslations listed
    else Error NotSupported
fence_of None function =
    if function == 0 then Error InvalidParam
    else if function == 1 then Error InvalidParam
    else if function == 2 then Error InvalidParam
    else Error NotSupported

-- the RFENCE extension
abbrev pub rfence_outcome : HostCall → Harts → Outcome
rfence_outcome call harts = fence_of (harts_of_call call harts) call.function
