-- Entering and leaving an enclave, and the effect on the table.
use Rattle.std.specs.Prelude.{◌≡◌, ℕ, Some}
use Rattle.sbi_decode.specs.declared.world.World.{World}
use Rattle.sbi_decode.specs.declared.world.World.TheVariants.{Enclave as InEnclave}
use Rattle.enclave_table.specs.Enclaves.{EnclaveTable, Live, with_enclave}
use Rattle.platforms.specs.CheckLists.{AllPass}
use Rattle.enclave_table.specs.Checks.{host_checks}
use Rattle.enclave_table.specs.declared.enclave.Enclave.{Enclave}
use Rattle.enclave_table.specs.declared.enclave.Stage.{Stage}
use Rattle.enclave_table.specs.declared.enclave.Stage.TheVariants.{Running, Stopped, Exited}
use Rattle.enclave_table.specs.declared.life.Leaving.{Leaving}
use Rattle.enclave_table.specs.declared.life.Leaving.TheVariants.{Stop, Exit}

-- the same table, except that the enclave is in this stage
abbrev pub Turns : EnclaveTable → ℕ → Stage → EnclaveTable → Type 0
Turns old id state new = (e : Enclave) × Live old id e
    × (new ≡ with_enclave old id (Some (record e { state = state })))

-- run and resume: the entered enclave was in this stage before
pub record Enters (old : EnclaveTable) (world : World) (id : ℕ) (before : Stage)
    (new : EnclaveTable) : Type 0 where
  pub passes : AllPass (host_checks (λ state. state ≡ before) old world id)
  pub turned : Turns old id Running new

-- the stage of an enclave after it is left
abbrev pub state_after : Leaving → Stage
state_after Stop = Stopped
state_after Exit = Exited

-- stop, exit, and an interrupt in an enclave: the enclave that was left has this id, and is in this
-- stage afterwards
pub record Leaves (old : EnclaveTable) (world : World) (state : Stage) (id : ℕ)
    (new : EnclaveTable) : Type 0 where
  pub left : world ≡ InEnclave id
  pub turned : Turns old id state new
