-- The parts of the core: the state that they represent, and their invariant.
use Rattle.std.specs.Prelude.{◌≡◌, ℕ, zero, suc, ◌≤◌, Bool, true, false, ◌||◌, ◌==◌, List, Option}
use Rattle.std.specs.Prelude.{None, Some, slice_index_or}
use Rattle.enclave_table.specs.Tables.{Kept}
use Rattle.enclave_table.specs.Enclaves.{EnclaveTable, Live, enclave_at}
use Rattle.enclave_table.specs.declared.enclave.Enclave.{Enclave}
use Rattle.enclave_table.specs.declared.enclave.Stage.{Stage}
use Rattle.enclave_table.specs.declared.enclave.Stage.TheVariants.{Running}
use Rattle.sbi_decode.specs.declared.world.World.{World}
use Rattle.sbi_decode.specs.declared.world.World.TheVariants.{Host, Enclave as InEnclave}
use Rattle.sbi_decode.specs.Registers.{RegisterFile, zeros}
use Rattle.sbi_decode.specs.Runners.{Runner}
use Rattle.monitor_core.specs.declared.parts.MonitorParts.{MonitorParts}
use Rattle.monitor_core.specs.Changes.{is_host}
use Rattle.monitor_core.specs.States.{MonitorState}

-- the world on a hart
abbrev pub world_in : List World → ℕ → World
world_in worlds hart = slice_index_or worlds hart Host

-- the hart is marked
abbrev pub mark_in : List Bool → ℕ → Bool
mark_in marked hart = slice_index_or marked hart false

-- the state that the parts and these register sets represent
abbrev pub state_in : MonitorParts → (Runner → RegisterFile) → MonitorState
state_in parts sets = record {
  table = parts.table.table;
  worlds = world_in parts.worlds;
  registers = sets;
  marked = mark_in parts.marked;
}

-- the same state with zero register sets, for statements that do not depend on the sets
abbrev pub bare : MonitorParts → MonitorState
bare parts = state_in parts (λ who. zeros)

-- the stage is Running
abbrev pub is_run : Stage → Bool
is_run Running = true
is_run _ = false

-- the slot contains a running enclave
abbrev pub is_running : Option Enclave → Bool
is_running None = false
is_running (Some e) = is_run e.state

-- the world may run: it is the host's, or that of a Running enclave
abbrev pub is_current : EnclaveTable → World → Bool
is_current table Host = true
is_current table (InEnclave id) = is_running (enclave_at table.enclaves id)

-- the world is that of this enclave
abbrev pub is_of : World → ℕ → Bool
is_of Host id = false
is_of (InEnclave k) id = k == id

-- one of the first harts is in the world of this enclave
abbrev pub is_held : (ℕ → World) → ℕ → ℕ → Bool
is_held worlds zero id = false
is_held worlds (suc hart) id = is_of (worlds hart) id || is_held worlds hart id

-- there are at most four harts, each in the host's world or in that of a Running enclave; each
-- Running enclave runs on exactly one hart; every hart that does not exist or is marked is in the
-- host's world
pub record HoldsTogether (kept : Kept) (worlds : List World) (marked : List Bool) : Type 0 where
  pub few : kept.table.layout.harts ≤ 4
  pub current : (hart : ℕ) → is_current kept.table (world_in worlds hart) ≡ true
  pub alone : (hart other id : ℕ) → world_in worlds hart ≡ InEnclave id
      → world_in worlds other ≡ InEnclave id → hart ≡ other
  pub held : (id : ℕ) (e : Enclave) → Live kept.table id e → e.state ≡ Running
      → is_held (world_in worlds) kept.table.layout.harts id ≡ true
  pub idle : (hart : ℕ) → kept.table.layout.harts ≤ hart → is_host (world_in worlds hart) ≡ true
  pub hosted : (hart : ℕ) → mark_in marked hart ≡ true → is_host (world_in worlds hart) ≡ true
