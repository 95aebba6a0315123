-- The calls that start and stop harts. (SBI, chapter 9)
use Rattle.std.specs.Prelude.{ℕ, ◌%◌, ◌^◌, ◌&&◌, ◌==◌, Bool, not, nat_lt, if◌then◌else◌}
use Rattle.sbi_calls.specs.declared.error.SbiError.TheVariants.{AlreadyAvailable, InvalidAddress}
use Rattle.sbi_calls.specs.declared.error.SbiError.TheVariants.{InvalidParam, NotSupported}
use Rattle.sbi_calls.specs.declared.harts.HartState.{HartState}
use Rattle.sbi_calls.specs.declared.harts.HartState.TheVariants.{Started, Stopped, StartPending}
use Rattle.sbi_calls.specs.declared.harts.Harts.{Harts}
use Rattle.sbi_calls.specs.declared.host_call.HostCall.{HostCall}
use Rattle.sbi_calls.specs.declared.outcome.Outcome.{Outcome}
use Rattle.sbi_calls.specs.declared.outcome.Outcome.TheVariants.{Error, StartHart, StopHart, Value}
use Rattle.sbi_calls.specs.Harts.{hart_count, state_number, state_of}

-- starts a hart of the board, by its state and by whether the host may execute at the address
abbrev pub start_by : HartState → Bool → ℕ → ℕ → ℕ → Outcome
start_by Started executable hart address opaque = Error AlreadyAvailable
start_by StartPending executable hart address opaque = Error AlreadyAvailable
start_by Stopped executable hart address opaque =
    if executable then StartHart hart address opaque else Error InvalidAddress

-- starts a hart: its number is in a0, the address in a1, its `opaque` word in a2
abbrev pub start_outcome : HostCall → Harts → Bool → Outcome
start_outcome call harts executable =
    if nat_lt call.a0 (hart_count harts)
    then start_by (state_of harts call.a0) executable call.a0 call.a1 call.a2
    else Error InvalidParam

-- the number of a hart's state
abbrev pub status_outcome : ℕ → Harts → Outcome
status_outcome hart harts =
    if nat_lt hart (hart_count harts)
    then Value (state_number (state_of harts hart))
    else Error InvalidParam

-- a type of suspension, of 32 bits, is reserved: 00000001 to 0fffffff, and 80000001 to 8fffffff
abbrev pub is_reserved : ℕ → Bool
is_reserved type = not (type % 2 ^ 31 == 0) && nat_lt (type % 2 ^ 31) 0x10000000

-- no type of suspension is implemented
abbrev pub suspend_outcome : ℕ → Outcome
suspend_outcome word =
    if is_reserved (word % 2 ^ 32) then Error InvalidParam else Error NotSupported

-- the functions for hart states: start a hart, stop this hart, query a hart's status, and suspend
abbrev pub hsm_outcome : HostCall → Harts → Bool → Outcome
hsm_outcome call harts executable =
    if call.function == 0 then start_outcome call harts executable
    else if call.function == 1 then StopHart
    else if call.function == 2 then status_outcome call.a0 harts
    else if call.function == 3 then suspend_outcome call.a0
    else Error NotSupported
