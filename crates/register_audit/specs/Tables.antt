-- The tables of listings.
use Rattle.std.specs.Prelude.{◌≡◌, List, ℕ, Bool, true, false, Some, None}
use Rattle.pmp_encoding.specs.declared.extent.Extent.{Extent}
use Rattle.pmp_match.specs.RegisterMatching.{AreExtents}
use Rattle.pmp_encoding.specs.declared.xlen.Xlen.{Xlen}
use Rattle.register_audit.specs.declared.listing.Listing.{Listing}
use Rattle.register_audit.specs.RegisterListings.{listed}
use Rattle.register_audit.specs.SecurityBits.{unknown_bit}
use Rattle.register_audit.specs.NoMeaning.{MeansNothing}

-- the bool is true iff the registers of a listing mean something
pub data IsShown (listing : Listing) : Bool → Type 0 where
  shown : unknown_bit listing.mseccfg ≡ None → (extents : List Extent)
      → AreExtents listing.registers extents → IsShown listing true
  refused : MeansNothing listing → IsShown listing false

-- the bool is true iff the registers of a listing with this width mean something
pub record IsRegisterTable (xlen : Xlen) (listing : List ℕ) (meant : Bool) : Type 0 where
  pub leaves : Listing
  pub listed_as : listed xlen listing ≡ Some leaves
  pub is_shown : IsShown leaves meant
