-- The banks stay right where each event loads entries on its own hart alone.
use Rattle.std.proofs.Common.{◌≢◌, ◌∙◌, ℕ, ◌<◌, ◌==◌, false, Bool, List, [], if◌then◌else◌, Option, refl, ap, sym, subst}
use Rattle.std.proofs.lemmas.Bool.{eq-eqb, eqb-true, ne_eqb, both_ways}
use Rattle.pmp_encoding.specs.declared.bank.Bank.{Bank}
use Rattle.platforms.specs.Platform.{PlatformLayout, IsLayout}
use Rattle.monitor_core.specs.Frames.{KeepsOthers}
use Rattle.monitor_core.proofs.Cases.{both}
use Rattle.monitor_core.proofs.Others.{others_call, others_irq, others_stay}
use Rattle.monitor_core.proofs.Running.{others_put}
use Rattle.monitor_core.proofs.SoundTables.{opening_sound}
use Rattle.monitor_core.proofs.WorldsKept.{putting_keeps_worlds, waking_keeps_worlds}
use Rattle.hart_trace.specs.declared.event.Event.{Event}
use Rattle.hart_trace.specs.declared.event.Event.TheVariants as events
use Rattle.hart_trace.specs.declared.reply.Reply.{Reply}
use Rattle.hart_sim.specs.declared.machine.Machine.{Machine}
use Rattle.hart_sim.specs.After.{After, booted, happened}
use Rattle.hart_sim.specs.Banks.{AreBanksRight, LoadsFewest}
use Rattle.hart_sim.specs.Changes.{calling}
use Rattle.hart_sim.specs.Loaded.{Loaded, opened, followed, StaysRight}
use Rattle.hart_sim.specs.Machines.{state_of, bank_on}
use Rattle.hart_sim.specs.States.{MachineState, core_of, opening_state, view_on}
use Rattle.hart_sim.specs.Steps.{Run, Step, still, step, verdict}
use Rattle.hart_sim.specs.Worlds.{AreWorlds}
use Rattle.hart_sim.proofs.Asked.{awoken, named, asked, lent, core_access}
use Rattle.hart_sim.proofs.BankPlaces.{loads_same}
use Rattle.hart_sim.proofs.Headlined.{layout_of}
use Rattle.hart_sim.proofs.Layouts.{layout_stays}
use Rattle.hart_sim.proofs.LeftBanks.{meant_then}
use Rattle.hart_sim.proofs.SoundTables.{run_sound}
use Rattle.hart_sim.proofs.WorldsKept.{worlds_kept}

-- the mark of the hart itself is no other's
from_awoken : (old new : MachineState) (hart : ℕ) → KeepsOthers (core_of (awoken old hart)) (core_of new) hart → KeepsOthers (core_of old) (core_of new) hart
from_awoken old new hart k = record {
  worlds = k.worlds;
  awake = λ i other off. sym (ap (λ (t : Bool). if t then false else old.marked i) (ne_eqb i hart other)) ∙ k.awake i other off;
  views = k.views;
}

-- what a step leaves of the other harts
keeps_others : (old : MachineState) (hart : ℕ) (event : Event) (reply : Reply) (new : MachineState) → hart < old.table.layout.harts → AreWorlds old
    → Step old hart event reply new → KeepsOthers (core_of (awoken old hart)) (core_of new) hart
keeps_others old hart (events.Access a value) reply new low placed x = others_stay (core_of (awoken old hart)) (core_of new) (core_of (awoken old hart)) hart
    (core_access (verdict (view_on old hart) a) (awoken old hart) a value reply new x) refl refl refl
keeps_others old hart (events.Reg n value) reply new low placed x = others_stay (core_of (awoken old hart)) (core_of new) _ hart (ap core_of x.1) refl refl refl
keeps_others old hart (events.Ecall words) reply new low placed x =
    let s = core_of (awoken old hart) in
    let file = calling (awoken old hart) hart words.items in
    subst (λ c. KeepsOthers s c hart) (sym (ap core_of x.4)) (others_put s (asked old hart words.items) x.2 hart file refl
    (others_call (named old hart words.items) (lent old) (asked old hart words.items) hart x.0 x.1 x.2 low
    (putting_keeps_worlds s hart file (waking_keeps_worlds (core_of old) hart placed)) x.3))
keeps_others old hart events.Irq reply new low placed x =
    let s = core_of (awoken old hart) in
    subst (λ c. KeepsOthers s c hart) (sym (ap core_of x.2))
    (others_irq (old.worlds hart) s hart x.0 refl low (waking_keeps_worlds (core_of old) hart placed) x.1)

run_from : (platform : PlatformLayout) (events : List (ℕ × Event)) (replies : List Reply) (s : MachineState) (banks : ℕ → Option Bank)
    → Loaded platform events replies s banks → Run (opening_state platform) events replies s
run_from platform _ _ _ banks (opened rules right) = still
run_from platform _ _ s banks (followed {events} {replies} {old} {new} {before} l hart event reply low possible x own others) =
    step (run_from platform events replies old before l) hart event reply low possible x

rules_from : (platform : PlatformLayout) (events : List (ℕ × Event)) (replies : List Reply) (s : MachineState) (banks : ℕ → Option Bank)
    → Loaded platform events replies s banks → IsLayout platform
rules_from platform _ _ _ banks (opened rules right) = rules
rules_from platform _ _ s banks (followed {events} {replies} {old} {new} {before} l hart event reply low possible x own others) =
    rules_from platform events replies old before l

right_from : (platform : PlatformLayout) (events : List (ℕ × Event)) (replies : List Reply) (s : MachineState) (banks : ℕ → Option Bank)
    → Loaded platform events replies s banks → AreBanksRight s banks
right_from platform _ _ _ banks (opened rules right) = right
right_from platform _ _ s banks (followed {events} {replies} {old} {new} {before} l hart event reply low possible x own others) = λ i b known off has.
    both (i == hart)
    (λ e. let is = eqb-true i hart e in subst (λ k. LoadsFewest b (view_on s k)) (sym is) (own b (sym (ap banks is) ∙ has)))
    (λ e.
    let other : i ≢ hart = λ is. both_ways (i == hart) e (eq-eqb i hart is) in
    let placed = worlds_kept platform events replies old (run_from platform events replies old before l) in
    let k = from_awoken old s hart (keeps_others old hart event reply s low placed x) in
    let under = subst (λ l. i < l.harts) (layout_stays old hart event reply s x) known in
    loads_same b (view_on old i) (view_on s i) (k.views i other under off)
    (right_from platform events replies old before l i b under (k.awake i other off) (sym (others i other) ∙ has)))

pub stays_right : (platform : PlatformLayout) (events : List (ℕ × Event)) (replies : List Reply) (s : MachineState) (banks : ℕ → Option Bank)
    → Loaded platform events replies s banks → StaysRight platform events replies s banks
stays_right platform events replies s banks l =
    let run = run_from platform events replies s banks l in
    record {
      run = run;
      right = right_from platform events replies s banks l;
      worlds = worlds_kept platform events replies s run;
      table = run_sound (opening_state platform) s events replies (opening_sound platform (rules_from platform events replies s banks l)) run;
      layout = layout_of platform s events replies run;
    }

-- a machine after boot and events is such a one
pub loaded_from : (platform : PlatformLayout) (events : List (ℕ × Event)) (replies : List Reply) (machine : Machine) → After platform events replies machine
    → Loaded platform events replies (state_of machine) (bank_on machine)
loaded_from platform _ _ m (booted b) = subst (λ s. Loaded platform [] [] s (bank_on m)) (sym b.state)
    (opened b.rules (subst (λ s. AreBanksRight s (bank_on m)) b.state b.banks))
loaded_from platform _ _ m (happened {events} {replies} {old} a hart event reply x) = followed (loaded_from platform events replies old a) hart event reply
    x.known x.possible x.happened (meant_then old m hart event reply x) x.others
