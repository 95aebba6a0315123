-- A listing that means nothing.
use Rattle.std.specs.Prelude.{◌≡◌, ℕ, Some, None}
use Rattle.pmp_match.specs.declared.reserved.ReservedAt.{ReservedAt}
use Rattle.pmp_match.specs.Reserved.{IsFirstReserved}
use Rattle.register_audit.specs.declared.listing.Listing.{Listing}
use Rattle.register_audit.specs.SecurityBits.{unknown_bit}

-- the registers of a listing mean nothing: an entry has a reserved value, or mseccfg has a bit that
-- no extension defines and that might change the meaning of the entries
pub data MeansNothing (leaves : Listing) : Type 0 where
  reserved : unknown_bit leaves.mseccfg ≡ None → (found : ReservedAt)
      → IsFirstReserved leaves.registers found → MeansNothing leaves
  unmodelled : (bit : ℕ) → unknown_bit leaves.mseccfg ≡ Some bit → MeansNothing leaves
