-- The machine as seen by its caller: its state, and the PMP registers loaded on each hart.
use Rattle.std.specs.Prelude.{◌≡◌, ◌⊎◌, ◌↔◌, ℕ, List, Err, Option}
use Rattle.pmp_encoding.specs.declared.bank.Bank.{Bank}
use Rattle.pmp_encoding.specs.declared.region.Entry.{Entry}
use Rattle.pmp_match.specs.declared.access.Access.{Access}
use Rattle.pmp_match.specs.declared.cause.Cause.{Cause}
use Rattle.pmp_match.specs.Judgement.{Judges}
use Rattle.enclave_table.specs.Tables.{Kept}
use Rattle.monitor_core.specs.Cores as cores
use Rattle.hart_trace.specs.declared.event.Event.{Event}
use Rattle.hart_trace.specs.declared.event.Event.TheVariants as events
use Rattle.hart_sim.specs.declared.machine.Machine.{Machine}
use Rattle.hart_trace.specs.declared.reply.Reply.{Reply}
use Rattle.hart_trace.specs.declared.reply.Reply.TheVariants as replies
use Rattle.hart_sim.specs.Banks.{AreBanksRight, IsOwnBank, LoadsNothing, MeetsList}
use Rattle.hart_sim.specs.Parts.{state_in, bank_in}
use Rattle.hart_sim.specs.States.{MachineState, awoken}
use Rattle.hart_sim.specs.Steps.{DoesBy}

-- the state of the machine, as its observers show it: the table, the world and the registers on
-- each hart, the marks, and the byte at each address
unfoldable pub state_of : Machine → MachineState
state_of machine = state_in machine.parts

-- the table of enclaves, with the stored list of entries of each view, which `table` shows
unfoldable pub kept_of : Machine → Kept
kept_of machine = cores.core_kept machine.parts.core

-- the PMP registers loaded on a hart, which `bank` shows
unfoldable pub bank_on : Machine → ℕ → Option Bank
bank_on machine = bank_in machine.parts

-- an access faults iff the list that it meets denies it, with the same cause
abbrev pub IsJudged : Machine → ℕ → Event → Reply → Type 0
IsJudged machine hart event reply =
    (access : Access) (value : ℕ) (list : List Entry) (cause : Cause)
    → event ≡ events.Access access value
    → MeetsList (state_of machine) (kept_of machine) (bank_on machine) hart list
    → (reply ≡ replies.Fault cause) ↔ Judges list access (Err cause)

-- on every machine, after the mark is removed, an access has the effect decided by the list that it
-- meets, and any other event has its usual effect
abbrev pub DoesByList : Machine → ℕ → Event → Reply → Machine → Type 0
DoesByList old hart event reply new =
    DoesBy (MeetsList (state_of old) (kept_of old) (bank_on old) hart) event
    (awoken (state_of old) hart) hart reply (state_of new)

-- the bank of each hart that is not marked means the view of its world by the fewest entries. Boot
-- establishes this and every step preserves it; replacing a bank voids it
abbrev pub KeepsBanksRight : Machine → Type 0
KeepsBanksRight machine = AreBanksRight (state_of machine) (bank_on machine)

-- on every machine, whatever banks were replaced, an event on a hart leaves there the bank made
-- from the list of its world, or loads no entries
abbrev pub LoadsExactly : Machine → ℕ → Machine → Type 0
LoadsExactly old hart new = IsOwnBank (state_of new) (kept_of new) (bank_on new) hart
    ⊎ LoadsNothing (state_of old) (state_of new) (bank_on old) (bank_on new) hart
