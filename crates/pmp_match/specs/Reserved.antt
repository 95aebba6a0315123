-- Reserved values of a configuration byte.
use Rattle.std.specs.Prelude.{◌≡◌, ℕ, ◌<◌, false}
use Rattle.pmp_encoding.specs.declared.fault.EncodingFault.TheVariants.{ReservedPerm, ReservedBits}
use Rattle.pmp_encoding.specs.Faults.{HasFault}
use Rattle.pmp_match.specs.declared.registers.Registers.{Registers}
use Rattle.pmp_match.specs.declared.reserved.Reserved.{Reserved}
use Rattle.pmp_match.specs.declared.reserved.Reserved.TheVariants.{Permission, Bits}
use Rattle.pmp_match.specs.declared.reserved.ReservedAt.{ReservedAt}
use Rattle.pmp_match.specs.declared.smepmp.Security.{Security}
use Rattle.pmp_match.specs.Registers.{cfg_at}

-- the byte has the reserved value: W without R, which is defined if MML is set; or a nonzero bit of
-- 6:5
abbrev pub IsReserved : Security → Reserved → ℕ → Type 0
IsReserved s Permission cfg = (s.lockdown ≡ false) × HasFault ReservedPerm cfg 0
IsReserved s Bits cfg = HasFault ReservedBits cfg 0

-- the byte has no reserved value
abbrev pub IsDefined : Security → ℕ → Type 0
IsDefined s cfg = (value : Reserved) → ¬ IsReserved s value cfg

-- the reserved value that is reported: `Permission` if the byte has both
pub record IsNamedReserved (s : Security) (cfg : ℕ) (value : Reserved) : Type 0 where
  pub has : IsReserved s value cfg
  pub first : IsReserved s Permission cfg → value ≡ Permission

-- the first entry that has a reserved value, with that value
pub record IsFirstReserved (registers : Registers) (found : ReservedAt) : Type 0 where
  pub inside : found.place < 64
  pub value : IsNamedReserved registers.security (cfg_at registers found.place) found.value
  pub below : (place : ℕ) → place < found.place
      → IsDefined registers.security (cfg_at registers place)
