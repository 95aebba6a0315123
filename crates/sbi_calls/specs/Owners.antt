-- The sources of traps.
use Rattle.std.specs.Prelude.{ℕ, ◌+◌, ◌^◌, ◌==◌, if◌then◌else◌}
use Rattle.sbi_decode.specs.declared.world.World.{World}
use Rattle.sbi_decode.specs.declared.world.World.TheVariants.{Host, Enclave}
use Rattle.sbi_calls.specs.declared.owner.TrapOwner.{TrapOwner}
use Rattle.sbi_calls.specs.declared.owner.TrapOwner.TheVariants.{OtherHart, HostTimer, HostCall}
use Rattle.sbi_calls.specs.declared.owner.TrapOwner.TheVariants.{HostHandler, EnclaveCall}
use Rattle.sbi_calls.specs.declared.owner.TrapOwner.TheVariants.{EnclaveTimer, EnclaveStop}

-- the world of a number
abbrev pub world_of : ℕ → World
world_of number = if number == 0 then Host else Enclave number

-- the cause of an interrupt has bit 63 set (Privileged Architecture, mcause)
abbrev pub interrupt : ℕ → ℕ
interrupt number = 2 ^ 63 + number

-- machine mode's software interrupt, with which harts interrupt one another
abbrev pub software_interrupt : ℕ
software_interrupt = interrupt 3

-- machine mode's timer interrupt
abbrev pub timer_interrupt : ℕ
timer_interrupt = interrupt 7

-- the cause of an environment call from user mode
abbrev pub user_call : ℕ
user_call = 8

-- the cause of an environment call from supervisor mode
abbrev pub supervisor_call : ℕ
supervisor_call = 9

-- the source of a trap, by the world that trapped and the cause
abbrev pub owner_of : World → ℕ → TrapOwner
owner_of Host cause =
    if cause == software_interrupt then OtherHart
    else if cause == timer_interrupt then HostTimer
    else if cause == supervisor_call then HostCall
    else HostHandler
owner_of (Enclave id) cause =
    if cause == software_interrupt then OtherHart
    else if cause == timer_interrupt then EnclaveTimer
    else if cause == user_call then EnclaveCall
    else EnclaveStop
