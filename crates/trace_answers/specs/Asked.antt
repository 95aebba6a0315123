-- The requests of events, in terms of the machine before each event.
use Rattle.std.specs.Prelude.{◌≡◌, ℕ, List}
use Rattle.pmp_encoding.specs.declared.region.Entry.{Entry}
use Rattle.pmp_match.specs.declared.access.Access.{Access}
use Rattle.sbi_decode.specs.Calls.{call_of}
use Rattle.hart_trace.specs.declared.event.Event.{Event}
use Rattle.hart_trace.specs.declared.event.Event.TheVariants as events
use Rattle.hart_sim.specs.declared.machine.Machine.{Machine}
use Rattle.hart_sim.specs.Banks.{MeetsList}
use Rattle.hart_sim.specs.Changes.{calling}
use Rattle.hart_sim.specs.Machines.{bank_on, kept_of, state_of}
use Rattle.trace_answers.specs.declared.reasons.Reason.{Reason}
use Rattle.pmp_match.specs.Deciders.{DecidesIn}
use Rattle.trace_answers.specs.Reasons.{Decides, IsReason}
use Rattle.trace_answers.specs.declared.asked.Asked.{Asked}
use Rattle.trace_answers.specs.declared.asked.Deed.{Deed}
use Rattle.trace_answers.specs.declared.asked.Deed.TheVariants as deeds

-- the entry that decides an access on a hart, by the list that applies to the hart
abbrev pub by_met : Machine → ℕ → Decides
by_met machine hart a found = (list : List Entry)
    → MeetsList (state_of machine) (kept_of machine) (bank_on machine) hart list
    → DecidesIn list a found

-- the request of an event: an access with the reason for its outcome; or a call, which the
-- registers name after the event's words are set
pub data IsDeed (machine : Machine) (hart : ℕ) : Event → Deed → Type 0 where
  access : (a : Access) (value : ℕ) (reason : Reason) → IsReason (by_met machine hart) a reason
      → IsDeed machine hart (events.Access a value) (deeds.Access a reason)
  setting : (n value : ℕ) → IsDeed machine hart (events.Reg n value) (deeds.Setting n value)
  call : (words : _) → IsDeed machine hart (events.Ecall words)
      (deeds.Call (call_of (calling (state_of machine) hart words.items)))
  interrupt : IsDeed machine hart events.Irq deeds.Interrupt

-- the request of an event on a hart, and the world that runs there before it
pub record IsAsked (machine : Machine) (hart : ℕ) (event : Event) (asked : Asked) : Type 0 where
  pub hart_is : asked.hart ≡ hart
  pub world_is : asked.world ≡ (state_of machine).worlds hart
  pub deed_is : IsDeed machine hart event asked.deed
