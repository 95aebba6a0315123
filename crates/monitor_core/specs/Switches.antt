-- The changes of registers by an event on a hart.
use Rattle.std.specs.Prelude.{◌≡◌, ◌≢◌, ◌⊎◌, ℕ, None}
use Rattle.enclave_table.specs.Enclaves.{Live, enclave_at}
use Rattle.enclave_table.specs.declared.enclave.Enclave.{Enclave}
use Rattle.enclave_table.specs.declared.enclave.Stage.TheVariants.{Fresh, Stopped, Exited}
use Rattle.sbi_decode.specs.Registers.{RegisterFile, with_x, zeros}
use Rattle.sbi_decode.specs.declared.world.World.TheVariants.{Host, Enclave as InEnclave}
use Rattle.sbi_decode.specs.Runners.{Runner, HostOf, EnclaveOf, runner_of}
use Rattle.monitor_core.specs.Changes.{first_registers}
use Rattle.monitor_core.specs.States.{MonitorState}

-- the world on a hart, as an owner of registers
abbrev pub runner_on : MonitorState → ℕ → Runner
runner_on s hart = runner_of hart (s.worlds hart)

-- the enclave was live and is no longer
abbrev pub IsGone : MonitorState → MonitorState → ℕ → Type 0
IsGone old new id = (e : Enclave) × Live old.table id e × (enclave_at new.table.enclaves id ≡ None)

-- the enclave has exited, and had not before
abbrev pub HasExited : MonitorState → MonitorState → ℕ → Type 0
HasExited old new id = (e now : Enclave) × Live old.table id e × (e.state ≢ Exited)
    × Live new.table id now × (now.state ≡ Exited)

-- the host continues with the registers that it had when it was left, except a0 and a1, which are 1
-- and 0 after a stop, and 0 and a value after an exit
abbrev pub ComesBack : RegisterFile → RegisterFile → Type 0
ComesBack kept now = (now ≡ with_x (with_x kept 10 1) 11 0)
    ⊎ ((value : ℕ) × (now ≡ with_x (with_x kept 10 0) 11 value))

-- an enclave starts for the first time, or continues with the registers that it had when it was
-- stopped
abbrev pub GoesIn : ℕ → Enclave → RegisterFile → RegisterFile → Type 0
GoesIn id e kept now = ((e.state ≡ Fresh) × (now ≡ first_registers id e.parts))
    ⊎ ((e.state ≡ Stopped) × (now ≡ kept))

-- the registers of an enclave that is destroyed or has exited become zero. Those of every other
-- runner that is not on the hart before or after stay the same. If the hart switches to the host,
-- the host continues as in `ComesBack`; if it switches to an enclave, that starts or continues as
-- in `GoesIn`
pub record KeepsRegisters (old : MonitorState) (hart : ℕ) (new : MonitorState) : Type 0 where
  pub gone : (id : ℕ) → IsGone old new id → new.registers (EnclaveOf id) ≡ zeros
  pub exited : (id : ℕ) → HasExited old new id → new.registers (EnclaveOf id) ≡ zeros
  pub others : (who : Runner) → who ≢ runner_on old hart → who ≢ runner_on new hart
      → ((id : ℕ) → who ≡ EnclaveOf id → IsGone old new id → ⊥)
      → new.registers who ≡ old.registers who
  pub host : old.worlds hart ≢ Host → new.worlds hart ≡ Host
      → ComesBack (old.registers (HostOf hart)) (new.registers (HostOf hart))
  pub enclave : (id : ℕ) → old.worlds hart ≢ InEnclave id → new.worlds hart ≡ InEnclave id
      → (e : Enclave) × Live old.table id e
      × GoesIn id e (old.registers (EnclaveOf id)) (new.registers (EnclaveOf id))
