-- The map that a listing of registers means.
use Rattle.std.specs.Prelude.{◌≡◌, ℕ, List, Bool, true, false, Some, None}
use Rattle.pmp_encoding.specs.declared.extent.Extent.{Extent}
use Rattle.pmp_encoding.specs.Views.{View}
use Rattle.permission_map.specs.declared.runs.Run.{Run}
use Rattle.permission_map.specs.Runs.{AreRuns, view_of_runs}
use Rattle.pmp_match.specs.RegisterDecision.{ExtentsMean}
use Rattle.pmp_match.specs.declared.access.Mode.{Mode}
use Rattle.map_table.specs.declared.stretch.Stretch.{Stretch}
use Rattle.pmp_encoding.specs.declared.xlen.Xlen.{Xlen}
use Rattle.register_audit.specs.declared.listing.Listing.{Listing}
use Rattle.register_audit.specs.RegisterListings.{listed}
use Rattle.register_audit.specs.Findings.{CutsAlone, IsFirstDifference}
use Rattle.register_audit.specs.SecurityBits.{unknown_bit}
use Rattle.register_audit.specs.NoMeaning.{MeansNothing}
use Rattle.register_audit.specs.Pages.{HasFirstBytes, IsTooFine}
use Rattle.register_audit.specs.MapTexts.{map_text}
use Rattle.register_audit.specs.Modes.{AreGiven}

-- a text about extents, and whether it is a map: the lines of the map that they mean; or a line
-- about the first bytes whose permission differs from that of their page's first byte; or, if there
-- are no such bytes, about an access that an entry cuts
pub data IsMapOfExtents (extents : List Extent) : List ℕ → Bool → Type 0 where
  mapped : (runs : List Run) → AreRuns runs → ExtentsMean extents (view_of_runs runs)
      → IsMapOfExtents extents (map_text runs) true
  below : (view : View) → HasFirstBytes extents view → (stretch : Stretch)
      → IsFirstDifference view extents stretch → (line : List ℕ)
      → IsMapOfExtents extents line false
  cut : (view : View) → HasFirstBytes extents view → (entry at : ℕ)
      → CutsAlone view extents entry at → (line : List ℕ) → IsMapOfExtents extents line false

-- a text about a listing: about the permissions that its registers grant a mode, or a line with the
-- reason why they mean nothing
pub data IsMapOf (mode : Mode) (listing : Listing) : List ℕ → Bool → Type 0 where
  told :
      unknown_bit listing.mseccfg ≡ None
      → (given : List Extent) → AreGiven mode listing.registers given
      → (text : List ℕ) (is_map : Bool) → IsMapOfExtents given text is_map
      → IsMapOf mode listing text is_map
  refused : (line : List ℕ) → MeansNothing listing → IsMapOf mode listing line false

-- the permissions of pages' first bytes change too often under the registers of a listing
abbrev pub AreTooFine : Mode → Listing → Type 0
AreTooFine mode listing = (given : List Extent) × AreGiven mode listing.registers given
    × IsTooFine given

-- such a text about a listing of registers with this width
pub record IsMapFile (mode : Mode) (xlen : Xlen) (listing text : List ℕ) (is_map : Bool) :
    Type 0 where
  pub leaves : Listing
  pub listed_as : listed xlen listing ≡ Some leaves
  pub is_said : IsMapOf mode leaves text is_map
