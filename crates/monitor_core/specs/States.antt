-- The state of the monitor. There are no PMP entries in it, and no bytes of memory.
use Rattle.std.specs.Prelude.{ℕ, Bool, false}
use Rattle.pmp_encoding.specs.declared.perm.Perm.{Perm}
use Rattle.platforms.specs.Platform.{PlatformLayout}
use Rattle.enclave_table.specs.Enclaves.{EnclaveTable}
use Rattle.enclave_table.specs.Boot.{opening_table}
pub use Rattle.enclave_table.specs.Views.{current_view as view_of}
use Rattle.sbi_decode.specs.declared.world.World.{World}
use Rattle.sbi_decode.specs.declared.world.World.TheVariants.{Host}
use Rattle.sbi_decode.specs.Registers.{RegisterFile, zeros}
use Rattle.sbi_decode.specs.Runners.{Runner, runner_of}

-- the enclaves, the world on each hart, the registers of each host and enclave, and the marked
-- harts, which must load the host's entries before they continue. A hart that does not exist stays
-- in the host's world with zero registers, and is never marked
pub record MonitorState : Type 0 where
  pub table : EnclaveTable
  pub worlds : ℕ → World
  pub registers : Runner → RegisterFile
  pub marked : ℕ → Bool

-- the opening state of a platform: no enclave, each hart in the host's world, all registers
-- zero, no hart marked
abbrev pub opening_monitor : PlatformLayout → MonitorState
opening_monitor layout = record {
  table = opening_table layout;
  worlds = λ hart. Host;
  registers = λ who. zeros;
  marked = λ hart. false;
}

-- the view of the world on a hart
abbrev pub view_on : MonitorState → ℕ → ℕ → Perm
view_on s hart page = view_of s.table (s.worlds hart) page

-- the registers of the world on a hart
abbrev pub running_registers : MonitorState → ℕ → RegisterFile
running_registers s hart = s.registers (runner_of hart (s.worlds hart))
