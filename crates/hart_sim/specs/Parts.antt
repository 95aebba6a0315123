-- The parts of the machine: the state and the banks that they represent, and their invariant.
use Rattle.std.specs.Prelude.{◌≡◌, ℕ, List, [], ◌∷◌, length, Option, Some, slice_get}
use Rattle.std.specs.Prelude.{if◌then◌else◌, option_map, unwrap_or}
use Rattle.pmp_encoding.specs.declared.bank.Bank.{Bank}
use Rattle.pmp_encoding.specs.declared.limit.Limit.{Limit}
use Rattle.pmp_encoding.specs.Limits.{limit_number}
use Rattle.sbi_decode.specs.Registers.{RegisterFile, zeros}
use Rattle.sbi_decode.specs.Runners.{Runner, runner_of}
use Rattle.sbi_decode.specs.declared.world.World.{World}
use Rattle.context_switch.specs.declared.contexts.Contexts.{Contexts}
use Rattle.context_switch.specs.declared.hart.Hart.{Hart}
use Rattle.context_switch.specs.Contexts.{saved_of}
use Rattle.context_switch.specs.Harts.{number_of, world_of, registers_of, bank_of}
use Rattle.monitor_core.specs.Changes.{is_same}
use Rattle.monitor_core.specs.Cores.{core_kept, core_state, worlds_of}
use Rattle.monitor_core.specs.States.{MonitorState}
use Rattle.hart_sim.specs.declared.memory.Memory.{Memory}
use Rattle.hart_sim.specs.declared.parts.MachineParts.{MachineParts}
use Rattle.hart_sim.specs.Memory.{byte_at, is_written}
use Rattle.hart_sim.specs.States.{MachineState}

-- the registers of a host or an enclave: those of the hart that runs it, otherwise the saved ones
abbrev pub registers_in : List Hart → Contexts → Runner → RegisterFile
registers_in [] contexts who = unwrap_or (saved_of contexts who) zeros
registers_in (hart ∷ harts) contexts who =
    if is_same who (runner_of (number_of hart) (world_of hart)) then registers_of hart
    else registers_in harts contexts who

-- the state that the monitor's core and the registers represent
abbrev pub core_in : MachineParts → MonitorState
core_in parts = core_state parts.core (registers_in parts.harts parts.contexts)

-- the state that the monitor and memory represent
abbrev pub shown : MonitorState → Memory → MachineState
shown core memory = record {
  table = core.table;
  worlds = core.worlds;
  registers = core.registers;
  bytes = byte_at memory;
  written = is_written memory;
  marked = core.marked;
}

-- the state that the parts of a machine represent
abbrev pub state_in : MachineParts → MachineState
state_in parts = shown (core_in parts) parts.memory

-- the bank of a hart
abbrev pub bank_at : List Hart → ℕ → Option Bank
bank_at harts hart = option_map bank_of (slice_get harts hart)

-- the bank of a hart, in the parts of a machine
abbrev pub bank_in : MachineParts → ℕ → Option Bank
bank_in parts hart = bank_at parts.harts hart

-- a hart has its number, runs the world that the core assigns, and has the platform's number of
-- entries
pub record IsHart (hart : Hart) (place : ℕ) (there : World) (limit : Limit) : Type 0 where
  pub number : number_of hart ≡ place
  pub world : world_of hart ≡ there
  pub limited : limit_number (bank_of hart).limit ≡ limit_number limit

-- there are four harts, each at its index
pub record AreHarts (harts : List Hart) (worlds : ℕ → World) (limit : Limit) : Type 0 where
  pub four : length harts ≡ 4
  pub each : (i : ℕ) (hart : Hart) → slice_get harts i ≡ Some hart
      → IsHart hart i (worlds i) limit

-- the harts are in the worlds that the monitor's core assigns
abbrev pub FitTogether : MachineParts → Type 0
FitTogether parts = AreHarts parts.harts (worlds_of parts.core)
    (core_kept parts.core).table.layout.limit
