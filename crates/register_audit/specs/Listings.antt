-- The registers in a listing, or the reason why they judge nothing.
use Rattle.std.specs.Prelude.{◌≡◌, List, ℕ, Some, None}
use Rattle.pmp_encoding.specs.declared.extent.Extent.{Extent}
use Rattle.pmp_match.specs.declared.registers.Registers.{Registers}
use Rattle.pmp_match.specs.RegisterMatching.{AreExtents}
use Rattle.pmp_encoding.specs.declared.xlen.Xlen.{Xlen}
use Rattle.register_audit.specs.declared.listing.Listing.{Listing}
use Rattle.register_audit.specs.RegisterListings.{listed}
use Rattle.register_audit.specs.SecurityBits.{unknown_bit}
use Rattle.register_audit.specs.NoMeaning.{MeansNothing}
use Rattle.register_audit.specs.declared.listing_rules.Ruled.{Ruled}
use Rattle.register_audit.specs.declared.listing_rules.Ruled.TheVariants as ruled

-- a listing of registers with this width gives these, without a reserved value and without a bit of
-- mseccfg that no extension defines
pub record HasRules (xlen : Xlen) (listing : List ℕ) (registers : Registers) : Type 0 where
  pub leaves : Listing
  pub listed_as : listed xlen listing ≡ Some leaves
  pub modelled : unknown_bit leaves.mseccfg ≡ None
  pub registers_are : registers ≡ leaves.registers
  pub extents : List Extent
  pub are_extents : AreExtents leaves.registers extents

-- the registers in a listing judge nothing
pub record IsRefused (xlen : Xlen) (listing : List ℕ) : Type 0 where
  pub leaves : Listing
  pub listed_as : listed xlen listing ≡ Some leaves
  pub nothing : MeansNothing leaves

-- the rules of a listing, or that it has none
abbrev pub IsRuled : Xlen → List ℕ → Ruled → Type 0
IsRuled xlen listing (ruled.Rules registers) = HasRules xlen listing registers
IsRuled xlen listing (ruled.Refused line) = IsRefused xlen listing
