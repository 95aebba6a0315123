-- A machine after boot and any number of events.
use Rattle.std.specs.Prelude.{◌≡◌, ◌≢◌, ℕ, ◌<◌, List, [], ◌∷◌, ◌++◌}
use Rattle.platforms.specs.Platform.{PlatformLayout, IsLayout}
use Rattle.hart_trace.specs.declared.event.Event.{Event}
use Rattle.hart_sim.specs.declared.machine.Machine.{Machine}
use Rattle.hart_trace.specs.declared.reply.Reply.{Reply}
use Rattle.hart_sim.specs.Machines.{state_of, bank_on, IsJudged, KeepsBanksRight}
use Rattle.hart_sim.specs.States.{opening_state}
use Rattle.hart_sim.specs.Steps.{IsEvent, Step}

-- boot made the machine: the platform satisfies its rules, the state is the opening one, and each
-- hart has the fewest entries of its world's view
pub record IsBooted (platform : PlatformLayout) (machine : Machine) : Type 0 where
  pub rules : IsLayout platform
  pub state : state_of machine ≡ opening_state platform
  pub banks : KeepsBanksRight machine

-- an event happens on a hart of the machine: it is a step of its state, an access is judged by the
-- list that it meets, the banks of the other harts stay the same, and each hart that is not marked
-- has the fewest entries of its view
pub record Happens (old : Machine) (hart : ℕ) (event : Event) (reply : Reply) (new : Machine) :
    Type 0 where
  pub known : hart < (state_of old).table.layout.harts
  pub possible : IsEvent event
  pub happened : Step (state_of old) hart event reply (state_of new)
  pub judged : IsJudged old hart event reply
  pub others : (other : ℕ) → other ≢ hart → bank_on new other ≡ bank_on old other
  pub kept : KeepsBanksRight new

-- the machine after boot and these events, each with its hart, which got these replies
pub data After (platform : PlatformLayout) : List (ℕ × Event) → List Reply → Machine → Type 0 where
  booted : {machine : Machine} → IsBooted platform machine → After platform [] [] machine
  happened : {events : List (ℕ × Event)} {replies : List Reply} {old new : Machine}
      → After platform events replies old → (hart : ℕ) (event : Event) (reply : Reply)
      → Happens old hart event reply new
      → After platform (events ++ (hart, event) ∷ []) (replies ++ reply ∷ []) new

-- none of the events was on this hart
abbrev pub AreElsewhere : ℕ → List (ℕ × Event) → Type 0
AreElsewhere hart [] = Unit {0}
AreElsewhere hart (event ∷ events) = (hart ≢ event.0) × AreElsewhere hart events
