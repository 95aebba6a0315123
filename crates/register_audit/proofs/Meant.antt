-- The view that registers mean where a map is printed.
use Rattle.std.proofs.Common.{◌≡◌, ℕ, List, Bool, true, None, refl}
use Rattle.pmp_encoding.specs.declared.extent.Extent.{Extent}
use Rattle.permission_map.specs.declared.runs.Run.{Run}
use Rattle.permission_map.specs.Runs.{AreRuns, view_of_runs}
use Rattle.pmp_match.specs.declared.access.Mode.{Mode}
use Rattle.register_audit.specs.declared.listing.Listing.{Listing}
use Rattle.register_audit.specs.SecurityBits.{unknown_bit}
use Rattle.register_audit.specs.Maps.{IsMapOf, IsMapOfExtents, below, cut, mapped, refused, told}
use Rattle.register_audit.specs.MapTexts.{map_text}
use Rattle.register_audit.specs.Modes.{AreGiven, MeanFor}
use Rattle.register_audit.proofs.ByMode.{means_by}

-- what a printed map is
pub record IsMeant (mode : Mode) (listing : Listing) (text : List ℕ) : Type 0 where
  pub modelled : unknown_bit listing.mseccfg ≡ None
  pub runs : List Run
  pub are_runs : AreRuns runs
  pub means : MeanFor mode listing.registers (view_of_runs runs)
  pub is_text : text ≡ map_text runs

extents_mean : (mode : Mode) (listing : Listing) (xs : List Extent) (text : List ℕ) (is_map : Bool) → unknown_bit listing.mseccfg ≡ None
    → AreGiven mode listing.registers xs
    → IsMapOfExtents xs text is_map
    → is_map ≡ true → IsMeant mode listing text
extents_mean mode listing xs text is_map none are (mapped runs are_runs means) is_one = record {
  modelled = none;
  runs = runs;
  are_runs = are_runs;
  means = means_by mode listing.registers (view_of_runs runs) xs are means;
  is_text = refl;
}
extents_mean mode listing xs text is_map none are (below view first s d line) is_one = absurd cc
extents_mean mode listing xs text is_map none are (cut view first i at c line) is_one = absurd cc

-- where a map is printed the registers mean it
pub map_meant : (mode : Mode) (listing : Listing) (text : List ℕ) (is_map : Bool) → IsMapOf mode listing text is_map → is_map ≡ true
    → IsMeant mode listing text
map_meant mode listing text is_map (told none xs are said it of) is_one = extents_mean mode listing xs said it none are of is_one
map_meant mode listing text is_map (refused line is) is_one = absurd cc
