-- Numbers in the answers to calls.
use Rattle.std.specs.Prelude.{ℕ, ◌-◌, ℤ, negsuc}
use Rattle.sbi_decode.specs.declared.world.World.{World}
use Rattle.sbi_decode.specs.declared.world.World.TheVariants.{Host, Enclave as InEnclave}

-- the number of a world: 0 is the host
abbrev pub world_number : World → ℕ
world_number Host = 0
world_number (InEnclave id) = id

-- the negated number
abbrev pub below_zero : ℕ → ℤ
below_zero n = negsuc (n - 1)
