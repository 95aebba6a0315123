-- The accesses of any mode that the registers of a hart allow, for any matched addresses. (RISC-V
-- Privileged Architecture, Physical Memory Protection, Priority and Matching Logic)
use Rattle.std.specs.Prelude.{◌≡◌, ℕ, ◌<◌, true}
use Rattle.pmp_encoding.specs.declared.extent.Extent.{Extent}
use Rattle.pmp_match.specs.declared.access.Access.{Access}
use Rattle.pmp_match.specs.declared.access.Mode.{Mode}
use Rattle.pmp_match.specs.declared.access.Mode.TheVariants.{Machine}
use Rattle.pmp_encoding.specs.declared.perm.Perm.{Perm}
use Rattle.pmp_encoding.specs.declared.perm.Perm.TheVariants.{NoAccess}
use Rattle.pmp_match.specs.Smepmp.{machine_default, machine_perm}
use Rattle.pmp_match.specs.Kinds.{holds}
use Rattle.pmp_match.specs.declared.registers.Registers.{Registers}
use Rattle.pmp_match.specs.RegisterDecision.{ContainsAll, Meets}
use Rattle.pmp_match.specs.RegisterMatching.{IsExtentAt}
use Rattle.pmp_match.specs.Registers.{cfg_at}

-- the entry at an index matches no byte of the access
abbrev pub Misses : Registers → Access → ℕ → Type 0
Misses registers a place = (x : Extent) → IsExtentAt registers place x → ¬ Meets x a

-- the entry at an index, which matches these addresses, decides the access: it is the first by
-- number that contains a byte of the access
pub record IsDecidedAt (registers : Registers) (a : Access) (place : ℕ) (x : Extent) : Type 0 where
  pub inside : place < 64
  pub is_extent : IsExtentAt registers place x
  pub met : Meets x a
  pub missed : (lower : ℕ) → lower < place → Misses registers a lower

-- the permission that the entry at an index, which matches these addresses, grants a mode: for
-- machine mode according to its configuration byte and `mseccfg`
abbrev pub perm_in : Registers → Mode → ℕ → Extent → Perm
perm_in registers Machine place x = machine_perm registers.security (cfg_at registers place)
perm_in registers _ place x = x.perm

-- the permission of a mode if no entry contains a byte of an access: supervisor and user mode have
-- none
abbrev pub default_perm : Registers → Mode → Perm
default_perm registers Machine = machine_default registers.security
default_perm registers _ = NoAccess

-- the entry at an index, which matches these addresses, permits the access: its permission for the
-- mode includes the kind
abbrev pub LetsThrough : Registers → Access → ℕ → Extent → Type 0
LetsThrough registers a place x = holds (perm_in registers a.mode place x) a.kind ≡ true

-- the registers allow the access: the deciding entry contains each byte of it and permits it; or no
-- entry contains a byte of it, and the mode's default permission includes the kind
pub data RegistersAllow (registers : Registers) (a : Access) : Type 0 where
  matched : (place : ℕ) (x : Extent) → IsDecidedAt registers a place x → ContainsAll x a
      → LetsThrough registers a place x → RegistersAllow registers a
  unmatched : ((place : ℕ) → place < 64 → Misses registers a place)
      → holds (default_perm registers a.mode) a.kind ≡ true → RegistersAllow registers a
