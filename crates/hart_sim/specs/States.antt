-- The state of the machine. There are no PMP entries in it.
use Rattle.std.specs.Prelude.{ℕ, Bool, false}
use Rattle.pmp_encoding.specs.declared.perm.Perm.{Perm}
use Rattle.platforms.specs.Platform.{PlatformLayout}
use Rattle.enclave_table.specs.Enclaves.{EnclaveTable}
use Rattle.enclave_table.specs.Boot.{opening_table}
pub use Rattle.enclave_table.specs.Views.{current_view as view_of}
use Rattle.sbi_decode.specs.declared.world.World.{World}
use Rattle.sbi_decode.specs.declared.world.World.TheVariants.{Host}
use Rattle.sbi_decode.specs.Registers.{RegisterFile, zeros}
use Rattle.sbi_decode.specs.Runners.{Runner}
use Rattle.monitor_core.specs.States.{MonitorState}
use Rattle.monitor_core.specs.Changes.{without_mark}

-- the enclaves, the world on each hart, the registers of each host and enclave, the byte at each
-- address, the written pages, and the marked harts, which load the host's entries before their next
-- event. A hart that does not exist stays in the host's world with zero registers, and is never
-- marked
pub record MachineState : Type 0 where
  pub table : EnclaveTable
  pub worlds : ℕ → World
  pub registers : Runner → RegisterFile
  pub bytes : ℕ → ℕ
  pub written : ℕ → Bool
  pub marked : ℕ → Bool

-- the monitor's part of a state
abbrev pub core_of : MachineState → MonitorState
core_of s = record {
  table = s.table;
  worlds = s.worlds;
  registers = s.registers;
  marked = s.marked;
}

-- the state with another monitor's part
abbrev pub with_core : MachineState → MonitorState → MachineState
with_core s core = record s {
  table = core.table;
  worlds = core.worlds;
  registers = core.registers;
  marked = core.marked;
}

-- the state for an event on a hart: the hart is not marked
abbrev pub awoken : MachineState → ℕ → MachineState
awoken s hart = with_core s (without_mark (core_of s) hart)

-- the opening state of a platform: no enclave, each hart in the host's world, all registers
-- and bytes zero, no page written
abbrev pub opening_state : PlatformLayout → MachineState
opening_state layout =
    record {
      table = opening_table layout;
      worlds = λ hart. Host;
      registers = λ who. zeros;
      bytes = λ address. 0;
      written = λ page. false;
      marked = λ hart. false;
    }

-- the view of the world on a hart
abbrev pub view_on : MachineState → ℕ → ℕ → Perm
view_on s hart page = view_of s.table (s.worlds hart) page
