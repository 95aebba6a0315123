-- The worlds of a hart, and the owners of their registers.
use Rattle.std.specs.Prelude.{ℕ, ◌≤◌}
use Rattle.std.specs.Coded.{×_prop, Unit-prop, le_prop}
use Rattle.sbi_decode.specs.declared.world.World.{World}
use Rattle.sbi_decode.specs.declared.world.World.TheVariants.{Host, Enclave}

-- the world is the host, or an enclave with an id from 1 to 64
abbrev pub IsWorld : World → Type 0
IsWorld Host = Unit {0}
IsWorld (Enclave id) = (1 ≤ id) × (id ≤ 64)

pub IsWorld-prop : (world : World) → IsProp (IsWorld world)
IsWorld-prop Host = Unit-prop
IsWorld-prop (Enclave id) = ×_prop le_prop le_prop

-- an owner of a register set: the host of a hart, or an enclave
pub data Runner : Type 0 where
  HostOf : ℕ → Runner
  EnclaveOf : ℕ → Runner

-- the owner of a world's registers on a hart: an enclave is the same on every hart
abbrev pub runner_of : ℕ → World → Runner
runner_of hart Host = HostOf hart
runner_of hart (Enclave id) = EnclaveOf id
