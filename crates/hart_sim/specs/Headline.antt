-- The headline, for a machine after boot and any list of events.
use Rattle.std.specs.Prelude.{◌≡◌, ◌⊎◌, ℕ, ◌<◌, false, List, Some, [], ◌∷◌, ◌++◌}
use Rattle.pmp_encoding.specs.declared.bank.Bank.{Bank}
use Rattle.platforms.specs.Platform.{PlatformLayout}
use Rattle.enclave_table.specs.Tables.{IsTable}
use Rattle.hart_trace.specs.declared.event.Event.{Event}
use Rattle.hart_sim.specs.declared.machine.Machine.{Machine}
use Rattle.hart_trace.specs.declared.reply.Reply.{Reply}
use Rattle.hart_sim.specs.Machines.{state_of, bank_on}
use Rattle.hart_sim.specs.Banks.{LoadsFewest}
use Rattle.hart_sim.specs.States.{opening_state}
use Rattle.hart_sim.specs.Steps.{Run}
use Rattle.hart_sim.specs.Worlds.{AreWorlds}
use Rattle.hart_sim.specs.Promises.{Promises}
use Rattle.hart_sim.specs.After.{After, AreElsewhere, Happens}
use Rattle.enclave_table.specs.Views.{current_view}

-- the last of these events, if there are any, is on this hart
abbrev pub EndsOn : ℕ → List (ℕ × Event) → Type 0
EndsOn hart events = (events ≡ [])
    ⊎ ((before : List (ℕ × Event)) × (event : Event) × (events ≡ before ++ (hart, event) ∷ []))

-- one of the events: the machine before it, its reply, the machine after it, and its promises
pub record Moment (platform : PlatformLayout) (before : List (ℕ × Event)) (hart : ℕ) (event : Event)
    (after : List (ℕ × Event)) (replies : List Reply) (machine : Machine) : Type 0 where
  pub answered : List Reply
  pub reply : Reply
  pub rest : List Reply
  pub replies_part : replies ≡ answered ++ reply ∷ rest
  pub old : Machine
  pub new : Machine
  pub until : After platform before answered old
  pub happened : Happens old hart event reply new
  pub promises : Promises (state_of old) hart event reply (state_of new)
  pub since : Run (state_of new) after rest (state_of machine)

-- the bank of a hart is the one that its own last event left, or boot if it had no event. At that
-- time the bank meant the view of its world by the fewest entries. Every later event was on another
-- hart, whether or not this hart was marked
pub record IsLeft (platform : PlatformLayout) (hart : ℕ) (events : List (ℕ × Event))
    (replies : List Reply) (machine : Machine) : Type 0 where
  pub before : List (ℕ × Event)
  pub after : List (ℕ × Event)
  pub answered : List Reply
  pub rest : List Reply
  pub mid : Machine
  pub events_part : events ≡ before ++ after
  pub replies_part : replies ≡ answered ++ rest
  pub until : After platform before answered mid
  pub own : EndsOn hart before
  pub since : Run (state_of mid) after rest (state_of machine)
  pub elsewhere : AreElsewhere hart after
  pub meant : (bank : Bank) → bank_on mid hart ≡ Some bank
      → LoadsFewest bank (current_view (state_of mid).table ((state_of mid).worlds hart))
  pub stays : bank_on machine hart ≡ bank_on mid hart

-- the replies are a run of the small machine, which has no PMP entries, from the opening state. On
-- each hart that is not marked the loaded list means the view of its world, and no list of any
-- regions in any order that does so is shorter. On each hart, marked or not, the bank is the one
-- that its own last event, or boot, left. Each event kept its promises. Each hart is in the host's
-- world or in that of a Running enclave, and each Running enclave runs on exactly one hart. The
-- table is sound, and the platform is the one that was booted
pub record Headline (platform : PlatformLayout) (events : List (ℕ × Event)) (replies : List Reply)
    (machine : Machine) : Type 0 where
  pub run : Run (opening_state platform) events replies (state_of machine)
  pub banks : (hart : ℕ) → hart < platform.harts → (state_of machine).marked hart ≡ false
      → (bank : Bank) × (bank_on machine hart ≡ Some bank)
      × LoadsFewest bank (current_view (state_of machine).table ((state_of machine).worlds hart))
  pub left : (hart : ℕ) → hart < platform.harts → IsLeft platform hart events replies machine
  pub each : (before : List (ℕ × Event)) (hart : ℕ) (event : Event) (after : List (ℕ × Event))
      → events ≡ before ++ (hart, event) ∷ after
      → Moment platform before hart event after replies machine
  pub worlds : AreWorlds (state_of machine)
  pub table : IsTable (state_of machine).table
  pub layout : (state_of machine).table.layout ≡ platform
