-- The world of each hart.
use Rattle.std.specs.Prelude.{◌≡◌, ℕ, ◌<◌, true, None}
use Rattle.enclave_table.specs.Enclaves.{EnclaveTable, Live, enclave_at}
use Rattle.enclave_table.specs.Tables.{IsCurrent}
use Rattle.enclave_table.specs.declared.enclave.Enclave.{Enclave}
use Rattle.enclave_table.specs.declared.enclave.Stage.TheVariants.{Running}
use Rattle.sbi_decode.specs.declared.world.World.{World}
use Rattle.sbi_decode.specs.declared.world.World.TheVariants.{Host, Enclave as InEnclave}
use Rattle.monitor_core.specs.States.{MonitorState}

-- the world of an enclave that is not live
abbrev pub IsNoWorld : EnclaveTable → World → Type 0
IsNoWorld table Host = ⊥
IsNoWorld table (InEnclave id) = enclave_at table.enclaves id ≡ None

-- each Running enclave runs on a hart of the platform
abbrev pub AreHeld : EnclaveTable → (ℕ → World) → Type 0
AreHeld table worlds = (id : ℕ) (e : Enclave) → Live table id e → e.state ≡ Running → (hart : ℕ)
    × (hart < table.layout.harts) × (worlds hart ≡ InEnclave id)

-- each hart is in the host's world or in that of a Running enclave, each Running enclave runs on
-- exactly one hart, and a marked hart is in the host's world
pub record ArePlaced (s : MonitorState) : Type 0 where
  pub current : (hart : ℕ) → hart < s.table.layout.harts → IsCurrent s.table (s.worlds hart)
  pub alone : (hart other id : ℕ) → hart < s.table.layout.harts → other < s.table.layout.harts
      → s.worlds hart ≡ InEnclave id → s.worlds other ≡ InEnclave id → hart ≡ other
  pub held : AreHeld s.table s.worlds
  pub marked : (hart : ℕ) → hart < s.table.layout.harts → s.marked hart ≡ true
      → s.worlds hart ≡ Host
