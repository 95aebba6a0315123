-- An audit of a listing.
use Rattle.std.specs.Prelude.{◌≡◌, ℕ, List, Bool, false, Some, None}
use Rattle.pmp_encoding.specs.Views.{View}
use Rattle.pmp_match.specs.declared.access.Mode.{Mode}
use Rattle.pmp_encoding.specs.declared.xlen.Xlen.{Xlen}
use Rattle.register_audit.specs.declared.listing.Listing.{Listing}
use Rattle.register_audit.specs.RegisterListings.{listed}
use Rattle.register_audit.specs.declared.verdict.Verdict.{Verdict}
use Rattle.register_audit.specs.Verdicts.{IsVerdict, is_meant}
use Rattle.register_audit.specs.SecurityBits.{unknown_bit}

-- the answer for a listing: the verdict on the registers for a mode; and negative if mseccfg has a
-- bit that no extension defines, since it might change the meaning of the entries
pub data IsAnswer (mode : Mode) (view : View) (listing : Listing) : Bool → Type 0 where
  judged :
      unknown_bit listing.mseccfg ≡ None
      → (verdict : Verdict) → IsVerdict mode view listing.registers verdict
      → IsAnswer mode view listing (is_meant verdict)
  unmodelled : (bit : ℕ) → unknown_bit listing.mseccfg ≡ Some bit
      → IsAnswer mode view listing false

-- the answer for a listing of registers with this width
pub record IsAudit (mode : Mode) (view : View) (xlen : Xlen) (listing : List ℕ) (means : Bool) :
    Type 0 where
  pub leaves : Listing
  pub listed_as : listed xlen listing ≡ Some leaves
  pub answer : IsAnswer mode view leaves means
