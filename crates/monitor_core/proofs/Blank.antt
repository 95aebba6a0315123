-- The parts at boot.
use Rattle.std.proofs.Common.{◌≡◌, ℕ, zero, suc, false, replicate, refl}
use Rattle.sbi_decode.specs.declared.world.World.TheVariants.{Host}
use Rattle.monitor_core.specs.Parts.{mark_in, world_in}

-- each hart in the host's world, and none marked
pub at_host : (n hart : ℕ) → world_in (replicate n Host) hart ≡ Host
at_host zero hart = refl
at_host (suc n) zero = refl
at_host (suc n) (suc hart) = at_host n hart

pub no_mark : (n hart : ℕ) → mark_in (replicate n false) hart ≡ false
no_mark zero hart = refl
no_mark (suc n) zero = refl
no_mark (suc n) (suc hart) = no_mark n hart
