-- Shutdown and reboot. (SBI, chapter 10)
use Rattle.std.specs.Prelude.{ℕ, ◌%◌, ◌^◌, ◌==◌, nat_lt, if◌then◌else◌}
use Rattle.sbi_calls.specs.declared.error.SbiError.TheVariants.{InvalidParam, NotSupported}
use Rattle.sbi_calls.specs.declared.host_call.HostCall.{HostCall}
use Rattle.sbi_calls.specs.declared.outcome.Outcome.{Outcome}
use Rattle.sbi_calls.specs.declared.outcome.Outcome.TheVariants.{Error, Fail, Reboot, ShutDown}

-- a reset whose reason is defined, by its type: shutdown, cold reboot, warm reboot; then reserved
-- types, and from f0000000 on those of vendors
abbrev pub reset_of_type : ℕ → Outcome → Outcome
reset_of_type type shutdown =
    if type == 0 then shutdown
    else if type == 1 then Reboot
    else if type == 2 then Reboot
    else if nat_lt type 0xf0000000 then Error InvalidParam
    else Error NotSupported

-- the defined reasons are no reason and a system failure; all others are invalid
abbrev pub reset_outcome : ℕ → ℕ → Outcome
reset_outcome type reason =
    if reason == 0 then reset_of_type type ShutDown
    else if reason == 1 then reset_of_type type Fail
    else Error InvalidParam

-- type and reason have 32 bits
abbrev pub srst_outcome : HostCall → Outcome
srst_outcome call =
    if call.function == 0 then reset_outcome (call.a0 % 2 ^ 32) (call.a1 % 2 ^ 32)
    else Error NotSupported
