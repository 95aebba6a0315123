-- The hart on which each enclave runs.
use Rattle.std.specs.Prelude.{ℕ, List}
use Rattle.platforms.specs.Platform.{PlatformLayout}
use Rattle.monitor_core.specs.Worlds.{ArePlaced}
use Rattle.hart_trace.specs.declared.event.Event.{Event}
use Rattle.hart_trace.specs.declared.reply.Reply.{Reply}
use Rattle.hart_sim.specs.States.{MachineState, core_of, opening_state}
use Rattle.hart_sim.specs.Steps.{Run}

-- each hart is in the host's world or in that of a Running enclave, each Running enclave runs on
-- exactly one hart, and a marked hart is in the host's world
abbrev pub AreWorlds : MachineState → Type 0
AreWorlds s = ArePlaced (core_of s)

-- this is true after every run from the opening state
abbrev pub RunsKeepWorlds : Type 0
RunsKeepWorlds = (layout : PlatformLayout) (events : List (ℕ × Event)) (replies : List Reply)
    (s : MachineState) → Run (opening_state layout) events replies s → AreWorlds s
