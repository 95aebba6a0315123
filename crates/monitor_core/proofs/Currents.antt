-- Which worlds are current, as truth values and as facts.
use Rattle.std.proofs.Common.{◌≡◌, ◌≢◌, ◌∙◌, ℕ, zero, suc, ◌-◌, ◌≤◌, true, false, replicate, Option, Some, None, slice_index_or, refl, ap, sym}
use Rattle.platforms.specs.Platform.{PlatformLayout}
use Rattle.enclave_table.specs.Enclaves.{EnclaveTable, Live, enclave_at, with_enclave}
use Rattle.enclave_table.specs.Tables.{IsCurrent}
use Rattle.enclave_table.specs.declared.enclave.Enclave.{Enclave}
use Rattle.enclave_table.specs.declared.enclave.Stage.{Stage}
use Rattle.enclave_table.specs.declared.enclave.Stage.TheVariants.{Fresh, Running, Stopped, Exited}
use Rattle.sbi_decode.specs.Registers.{RegisterFile}
use Rattle.sbi_decode.specs.Runners.{Runner}
use Rattle.sbi_decode.specs.declared.world.World.{World}
use Rattle.sbi_decode.specs.declared.world.World.TheVariants.{Host, Enclave as InEnclave}
use Rattle.enclave_table.proofs.Places.{live_place, set_other}
use Rattle.monitor_core.specs.States.{opening_monitor}
use Rattle.monitor_core.specs.Changes.{is_host}
use Rattle.monitor_core.specs.declared.parts.MonitorParts.{MonitorParts}
use Rattle.monitor_core.specs.Parts.{is_run, is_running, is_current, world_in, state_in, HoldsTogether}
use Rattle.monitor_core.specs.Worlds.{ArePlaced}
use Rattle.monitor_core.proofs.Held.{held_from}

abbrev absent : Option Enclave
absent = None

none_at : (n k : ℕ) → slice_index_or (replicate n absent) k None ≡ absent
none_at zero k = refl
none_at (suc n) zero = refl
none_at (suc n) (suc k) = none_at n k

-- no enclave is live at boot
pub none_live : (layout : PlatformLayout) (id : ℕ) (e : Enclave) → Live (opening_monitor layout).table id e → ⊥
none_live layout id e live =
    let at : slice_index_or (replicate 64 absent) (id - 1) None ≡ Some e = live_place (replicate 64 absent) id e live in
    let z : absent ≡ Some e = sym (none_at 64 (id - 1)) ∙ at in cc

pub host_is : (w : World) → is_host w ≡ true → w ≡ Host
host_is Host e = refl
host_is (InEnclave id) e = absurd (let h : false ≡ true = e in cc)

run_is : (s : Stage) → is_run s ≡ true → s ≡ Running
run_is Fresh e = absurd (let h : false ≡ true = e in cc)
run_is Running e = refl
run_is Stopped e = absurd (let h : false ≡ true = e in cc)
run_is Exited e = absurd (let h : false ≡ true = e in cc)

pub current_from : (table : EnclaveTable) (w : World) → is_current table w ≡ true → IsCurrent table w
current_from table Host e = tt
current_from table (InEnclave id) e = by_slot (enclave_at table.enclaves id) refl
  where
    by_slot : (o : Option Enclave) → enclave_at table.enclaves id ≡ o → IsCurrent table (InEnclave id)
    by_slot None at = let z : false ≡ true = sym (ap is_running at) ∙ e in absurd cc
    by_slot (Some x) at = (x, at, run_is x.state (sym (ap is_running at) ∙ e))

pub current_to : (table : EnclaveTable) (w : World) → IsCurrent table w → is_current table w ≡ true
current_to table Host is = refl
current_to table (InEnclave id) is = ap is_running is.1 ∙ ap is_run is.2

-- a world that is not the enclave of an id is current still where only that id changed
pub current_other : (table : EnclaveTable) (id : ℕ) (slot : Option Enclave) (world : World) → 1 ≤ id → world ≢ InEnclave id → IsCurrent table world
    → IsCurrent (with_enclave table id slot) world
current_other table id slot Host above other is = tt
current_other table id slot (InEnclave k) above other is = (is.0, set_other table.enclaves id k slot above (λ e. other (ap InEnclave e)) ∙ is.1, is.2)

-- each hart of the parts is where it may be
pub placed_from : (parts : MonitorParts) (sets : Runner → RegisterFile) → HoldsTogether parts.table parts.worlds parts.marked → ArePlaced (state_in parts sets)
placed_from parts sets w = record {
  current = λ i low. current_from parts.table.table (world_in parts.worlds i) (w.current i);
  alone = λ i j id low also at there. w.alone i j id at there;
  held = held_from parts.table.table (world_in parts.worlds) w.held;
  marked = λ i low on. host_is (world_in parts.worlds i) (w.hosted i on);
}
