-- The small machine and the banks of its harts, without the rest of the machine.
use Rattle.std.specs.Prelude.{◌≡◌, ◌≢◌, ℕ, ◌<◌, List, [], ◌∷◌, ◌++◌, Option, Some}
use Rattle.pmp_encoding.specs.declared.bank.Bank.{Bank}
use Rattle.platforms.specs.Platform.{PlatformLayout, IsLayout}
use Rattle.enclave_table.specs.Tables.{IsTable}
use Rattle.enclave_table.specs.Views.{current_view}
use Rattle.hart_trace.specs.declared.event.Event.{Event}
use Rattle.hart_trace.specs.declared.reply.Reply.{Reply}
use Rattle.hart_sim.specs.Banks.{AreBanksRight, LoadsFewest}
use Rattle.hart_sim.specs.States.{MachineState, opening_state}
use Rattle.hart_sim.specs.Steps.{IsEvent, Run, Step}
use Rattle.hart_sim.specs.Worlds.{AreWorlds}

-- events and their harts: each event is a step of the small machine, after which the bank of its
-- own hart means the view of the world there by the fewest entries, and no other bank has changed.
-- Initially the state is the opening one, and each bank is right
pub data Loaded (platform : PlatformLayout) : List (ℕ × Event) → List Reply → MachineState
    → (ℕ → Option Bank) → Type 0 where
  opened : {banks : ℕ → Option Bank} → IsLayout platform
      → AreBanksRight (opening_state platform) banks
      → Loaded platform [] [] (opening_state platform) banks
  followed : {events : List (ℕ × Event)} {replies : List Reply} {old new : MachineState}
      {before after : ℕ → Option Bank} → Loaded platform events replies old before
      → (hart : ℕ) (event : Event) (reply : Reply) → hart < old.table.layout.harts
      → IsEvent event → Step old hart event reply new
      → ((bank : Bank) → after hart ≡ Some bank
      → LoadsFewest bank (current_view new.table (new.worlds hart)))
      → ((other : ℕ) → other ≢ hart → after other ≡ before other)
      → Loaded platform (events ++ (hart, event) ∷ []) (replies ++ reply ∷ []) new after

-- the consequences: the replies are a run, and on each hart that is not marked the bank means the
-- view of the world there by the fewest entries, although an event loads entries only on its own
-- hart. The worlds and the table are sound, and the platform is the one that was booted
pub record StaysRight (platform : PlatformLayout) (events : List (ℕ × Event))
    (replies : List Reply) (s : MachineState) (banks : ℕ → Option Bank) : Type 0 where
  pub run : Run (opening_state platform) events replies s
  pub right : AreBanksRight s banks
  pub worlds : AreWorlds s
  pub table : IsTable s.table
  pub layout : s.table.layout ≡ platform
