-- Changes of a state: everything not mentioned stays the same.
use Rattle.std.specs.Prelude.{ℕ, ◌+◌, ◌%◌, ◌^◌, Bool, true, false, ◌&&◌, ◌||◌, ◌==◌, nat_lt}
use Rattle.std.specs.Prelude.{if◌then◌else◌, List}
use Rattle.sbi_decode.specs.declared.world.World.{World}
use Rattle.sbi_decode.specs.declared.world.World.TheVariants.{Host, Enclave as InEnclave}
pub use Rattle.sbi_decode.specs.Registers.{with_x}
use Rattle.sbi_decode.specs.Registers.{RegisterFile, zeros}
use Rattle.measurement.specs.declared.request.Create.{Create}
use Rattle.enclave_table.specs.Digests.{with_digest}
use Rattle.enclave_table.specs.declared.enclave.Enclave.{Enclave}
use Rattle.sbi_decode.specs.Runners.{Runner, HostOf, EnclaveOf, runner_of}
use Rattle.monitor_core.specs.States.{MonitorState, running_registers}

-- the registers after the instruction that made the call
abbrev pub past_call : RegisterFile → RegisterFile
past_call file = record file { pc = (file.pc + 4) % 2 ^ 64 }

-- the registers of a first entry: the entry point in the pc, the id in a0, and zero elsewhere
abbrev pub first_registers : ℕ → Create → RegisterFile
first_registers id parts = with_x (record zeros { pc = parts.base + parts.entry_offset }) 10 id

-- the runners are equal
abbrev pub is_same : Runner → Runner → Bool
is_same (HostOf hart) (HostOf other) = hart == other
is_same (EnclaveOf id) (EnclaveOf other) = id == other
is_same _ _ = false

-- the world is the host's
abbrev pub is_host : World → Bool
is_host Host = true
is_host (InEnclave id) = false

-- the state with another world on a hart
abbrev pub in_world : MonitorState → ℕ → World → MonitorState
in_world s hart world = record s { worlds = λ h. if h == hart then world else s.worlds h }

-- the state with another register set of a runner
abbrev pub with_registers : MonitorState → Runner → RegisterFile → MonitorState
with_registers s who file = record s {
  registers = λ other. if is_same other who then file
      else s.registers other;
}

-- the state with another register set of the world on a hart
abbrev pub with_running : MonitorState → ℕ → RegisterFile → MonitorState
with_running s hart file = with_registers s (runner_of hart (s.worlds hart)) file

-- the state with two words in a0 and a1 of the world on a hart
abbrev pub answering : MonitorState → ℕ → ℕ → ℕ → MonitorState
answering s hart first second = with_running s hart
    (with_x (with_x (running_registers s hart) 10 first) 11 second)

-- the state with another digest of a live enclave
abbrev pub having_digest : MonitorState → ℕ → Enclave → List ℕ → MonitorState
having_digest s id e digest = record s { table = with_digest s.table id e digest }

-- the state without the mark of a hart
abbrev pub without_mark : MonitorState → ℕ → MonitorState
without_mark s hart = record s { marked = λ h. if h == hart then false else s.marked h }

-- the state with a mark on every other hart of the platform that is in the host's world
abbrev pub marking_others : MonitorState → ℕ → MonitorState
marking_others s hart = record s {
  marked = λ h. if h == hart then s.marked h
      else (nat_lt h s.table.layout.harts && is_host (s.worlds h) || s.marked h);
}

-- the state with the host on a hart, and two words in its a0 and a1
abbrev pub back_to_host : MonitorState → ℕ → ℕ → ℕ → MonitorState
back_to_host s hart first second = answering (in_world s hart Host) hart first second
