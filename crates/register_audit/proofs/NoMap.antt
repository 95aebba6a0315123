-- Extents that mean no view.
use Rattle.std.proofs.Common.{◌≡◌, ◌≢◌, ◌∙◌, ℕ, ◌*◌, ◌/◌, ◌%◌, ◌==◌, ◌^◌, ◌<◌, ◌⊎◌, inl, inr, List, Bool, false, None, Option, Some, ap, sym, arith}
use Rattle.std.specs.List.{AllByRecursion}
use Rattle.pmp_encoding.specs.declared.extent.Extent.{Extent}
use Rattle.pmp_encoding.specs.Views.{View}
use Rattle.pmp_match.specs.declared.access.Mode.{Mode}
use Rattle.pmp_match.specs.RegisterDecision.{ExtentsMean, IsWords}
use Rattle.pmp_match.proofs.RegistersEachByte.{each_byte}
use Rattle.pmp_match.proofs.Matched.{all_defined}
use Rattle.map_table.specs.declared.stretch.Stretch.{Stretch}
use Rattle.register_audit.specs.declared.listing.Listing.{Listing}
use Rattle.register_audit.specs.SecurityBits.{unknown_bit}
use Rattle.register_audit.specs.NoMeaning.{MeansNothing, reserved, unmodelled}
use Rattle.register_audit.specs.Findings.{CutsAlone, IsCut, IsFirstDifference}
use Rattle.register_audit.proofs.Cut.{cut_not}
use Rattle.register_audit.proofs.ByMode.{are_words, by_means}
use Rattle.register_audit.specs.Modes.{MeanFor}
use Rattle.register_audit.specs.Pages.{HasFirstBytes}
use Rattle.register_audit.specs.Maps.{IsMapOf, IsMapOfExtents, below, cut, mapped, refused, told}
use Rattle.pmp_encoding.specs.Perms.{bits_of}

-- a view that extents mean is what they give the first byte of each page
same_view : (xs : List Extent) (view other : View) → AllByRecursion IsWords xs → HasFirstBytes xs view → ExtentsMean xs other → (page : ℕ) → page < 2 ^ 44
    → view page ≡ other page
same_view xs view other words first means page small =
    let back : 4096 * page / 4096 ≡ page = omega arith in
    first page small ∙ each_byte xs other words means (4096 * page) (omega (arith, small)) ∙ ap other back

below_none : (xs : List Extent) (view other : View) (s : Stretch) → AllByRecursion IsWords xs → HasFirstBytes xs view → IsFirstDifference view xs s
    → ¬ ExtentsMean xs other
below_none xs view other s words first d means =
    let stretch = d.stretch in
    let inside : s.first < 2 ^ 56 = omega (arith, stretch.some, stretch.inside) in
    d.differs
    (sym (stretch.wanted s.first (omega arith) stretch.some) ∙ same_view xs view other words first means (s.first / 4096) (omega (arith, inside))
    ∙ sym (each_byte xs other words means s.first inside) ∙ stretch.given s.first (omega arith) stretch.some)

cut_none : (xs : List Extent) (view other : View) (i at : ℕ) → AllByRecursion IsWords xs → HasFirstBytes xs view → CutsAlone view xs i at
    → ¬ ExtentsMean xs other
cut_none xs view other i at words first c means =
    let found = c.first.cut.cut in
    let same = same_view xs view other words first means (at / 4096) (omega (arith, found.inside)) in
    let moved : IsCut other xs i at = record {
      aligned = found.aligned;
      inside = found.inside;
      may = ap (λ perm. bits_of perm % 2 == 1) (sym same) ∙ found.may;
      extent = found.extent;
      first = found.first;
      partly = found.partly;
    } in
    cut_not other xs i at moved means

extents_none : (xs : List Extent) (text : List ℕ) (is_map : Bool) (other : View) → AllByRecursion IsWords xs → IsMapOfExtents xs text is_map → is_map ≡ false
    → ¬ ExtentsMean xs other
extents_none xs text is_map other words (mapped runs are means) no_map = absurd cc
extents_none xs text is_map other words (below view first s d line) no_map = below_none xs view other s words first d
extents_none xs text is_map other words (cut view first i at c line) no_map = cut_none xs view other i at words first c

-- a bit is not none
pub one_or_none : (o : Option ℕ) (bit : ℕ) → o ≡ Some bit → o ≡ None → ⊥
one_or_none None bit is none = cc
one_or_none (Some other) bit is none = cc

-- what a listing leaves that means nothing means no view
none_refused : (mode : Mode) (listing : Listing) → MeansNothing listing
    → (unknown_bit listing.mseccfg ≢ None) ⊎ ((view : View) → ¬ MeanFor mode listing.registers view)
none_refused mode listing (reserved none found is) =
    inr (λ view m. all_defined listing.registers m.extents m.are_extents found.place is.inside found.value is.value.has)
none_refused mode listing (unmodelled bit is) = inl (λ none. one_or_none (unknown_bit listing.mseccfg) bit is none)

-- where no map is printed there is none
pub none_meant : (mode : Mode) (listing : Listing) (text : List ℕ) (is_map : Bool) → IsMapOf mode listing text is_map → is_map ≡ false
    → (unknown_bit listing.mseccfg ≢ None) ⊎ ((view : View) → ¬ MeanFor mode listing.registers view)
none_meant mode listing text is_map (told none given are said it of) no_map =
    inr (λ view m. extents_none given text is_map view (are_words listing.registers mode given are) of no_map
    (by_means mode listing.registers view given are m))
none_meant mode listing text is_map (refused line is) no_map = none_refused mode listing is
