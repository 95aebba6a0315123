-- On which hart each enclave runs, from step to step.
use Rattle.std.proofs.Common.{◌≡◌, ◌<◌, ℕ, List, refl, ap, sym, subst}
use Rattle.monitor_core.specs.States.{MonitorState, opening_monitor}
use Rattle.monitor_core.proofs.WorldsKept.{call_keeps_worlds, interrupt_keeps_worlds, waking_keeps_worlds, putting_keeps_worlds, opened}
use Rattle.hart_trace.specs.declared.event.Event.{Event}
use Rattle.hart_trace.specs.declared.event.Event.TheVariants as events
use Rattle.hart_trace.specs.declared.reply.Reply.{Reply}
use Rattle.hart_sim.specs.States.{MachineState, core_of, view_on, opening_state}
use Rattle.hart_sim.specs.Steps.{Step, Run, still, step, verdict}
use Rattle.hart_sim.specs.Worlds.{AreWorlds, RunsKeepWorlds}
use Rattle.hart_sim.proofs.Asked.{awoken, named, asked, lent, core_access}
use Rattle.hart_sim.proofs.Awake.{off}
use Rattle.monitor_core.specs.Worlds.{ArePlaced}

above : (s : MachineState) (core : MonitorState) → core_of s ≡ core → ArePlaced core → AreWorlds s
above s core is w = subst ArePlaced (sym is) w

pub worlds_step : (s : MachineState) (hart : ℕ) (event : Event) (reply : Reply) (n : MachineState) → hart < s.table.layout.harts → Step s hart event reply n
    → AreWorlds s → AreWorlds n
worlds_step s hart event reply n low x w = by_event event x
  where
    first : ArePlaced (core_of (awoken s hart))
    first = waking_keeps_worlds (core_of s) hart w

    by_event : (event : Event) → Step s hart event reply n → AreWorlds n
    by_event (events.Access a value) x = above n (core_of (awoken s hart)) (core_access (verdict (view_on s hart) a) (awoken s hart) a value reply n x) first
    by_event (events.Reg k value) x = above n _ (ap core_of x.1) (putting_keeps_worlds (core_of (awoken s hart)) hart _ first)
    by_event (events.Ecall words) x = above n x.2 (ap core_of x.4)
        (call_keeps_worlds (named s hart words.items) (lent s) (asked s hart words.items) hart x.0 x.1 x.2 low (off s hart) x.3
        (putting_keeps_worlds (core_of (awoken s hart)) hart _ first))
    by_event events.Irq x = above n x.0 (ap core_of x.2) (interrupt_keeps_worlds (s.worlds hart) (core_of (awoken s hart)) hart x.0 refl low
        (off s hart) x.1 first)

pub run_keeps_worlds : (old s : MachineState) (events : List (ℕ × Event)) (replies : List Reply) → AreWorlds old → Run old events replies s → AreWorlds s
run_keeps_worlds old _ _ _ w still = w
run_keeps_worlds old s _ _ w (step {events} {replies} {mid} run hart event reply low possible happened) = worlds_step mid hart event reply s low happened
    (run_keeps_worlds old mid events replies w run)

pub worlds_kept : RunsKeepWorlds
worlds_kept layout events replies s run = run_keeps_worlds (opening_state layout) s events replies
    (above (opening_state layout) (opening_monitor layout) refl (opened layout)) run
