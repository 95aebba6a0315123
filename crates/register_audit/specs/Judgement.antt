-- The outcome of an access under the registers of a hart.
use Rattle.std.specs.Prelude.{◌^◌, ◌<◌, ◌≤◌, Result, Ok, Err}
use Rattle.pmp_match.specs.declared.access.Access.{Access}
use Rattle.pmp_match.specs.declared.cause.Cause.{Cause}
use Rattle.pmp_match.specs.Accesses.{IsAligned}
use Rattle.pmp_match.specs.Causes.{access_fault, misaligned}
use Rattle.pmp_match.specs.declared.registers.Registers.{Registers}
use Rattle.register_audit.specs.Decision.{RegistersAllow}

-- first misaligned accesses, then those outside the space of 2 ^ 56 bytes, in machine mode too,
-- then the decision of the registers
pub data RegistersJudge (registers : Registers) (a : Access) : Result (Unit {0}) Cause
    → Type 0 where
  off_its_size : ¬ IsAligned a → RegistersJudge registers a (Err (misaligned a.kind))
  outside : IsAligned a → 2 ^ 56 ≤ a.address
      → RegistersJudge registers a (Err (access_fault a.kind))
  denied : IsAligned a → a.address < 2 ^ 56 → ¬ RegistersAllow registers a
      → RegistersJudge registers a (Err (access_fault a.kind))
  allowed : IsAligned a → a.address < 2 ^ 56 → RegistersAllow registers a
      → RegistersJudge registers a (Ok tt)
