-- What a verdict says of the registers.
use Rattle.std.proofs.Common.{◌≡◌, ◌≢◌, ◌∙◌, ◌⊎◌, ◌&&◌, inl, inr, List, Bool, true, false, None, sym, arith}
use Rattle.pmp_encoding.specs.declared.extent.Extent.{Extent}
use Rattle.pmp_encoding.specs.Views.{View}
use Rattle.pmp_match.specs.declared.registers.Registers.{Registers}
use Rattle.pmp_match.specs.declared.access.Mode.{Mode}
use Rattle.pmp_match.specs.RegisterDecision.{ExtentsMean}
use Rattle.pmp_match.specs.RegisterMatching.{AreExtents}
use Rattle.pmp_match.proofs.RegistersEachByte.{each_byte}
use Rattle.pmp_match.proofs.Matched.{all_defined}
use Rattle.map_table.specs.declared.stretch.Stretch.{Stretch}
use Rattle.register_audit.specs.declared.verdict.Verdict.{Verdict}
use Rattle.register_audit.specs.declared.verdict.Verdict.TheVariants as verdicts
use Rattle.register_audit.specs.Findings.{IsFirstDifference}
use Rattle.register_audit.specs.declared.listing.Listing.{Listing}
use Rattle.register_audit.specs.Audits.{IsAnswer, judged, unmodelled}
use Rattle.register_audit.specs.Modes.{AreGiven, MeanFor}
use Rattle.register_audit.specs.Verdicts.{IsVerdict, is_difference, is_meant}
use Rattle.register_audit.specs.SecurityBits.{unknown_bit}
use Rattle.register_audit.proofs.Cut.{cut_not}
use Rattle.register_audit.proofs.ByMode.{are_words, by_means}
use Rattle.register_audit.proofs.NoMap.{one_or_none}

differs_not : (mode : Mode) (view : View) (registers : Registers) (xs : List Extent) (s : Stretch) → AreGiven mode registers xs
    → IsFirstDifference view xs s → ¬ ExtentsMean xs view
differs_not mode view registers xs s are d means =
    let stretch = d.stretch in
    d.differs
    (sym (stretch.wanted s.first (omega arith) stretch.some)
    ∙ sym (each_byte xs view (are_words registers mode xs are) means s.first (omega (arith, stretch.some, stretch.inside)))
    ∙ stretch.given s.first (omega arith) stretch.some)

-- where the list of what registers give a mode does not mean a view, they do not
same_not : (mode : Mode) (view : View) (registers : Registers) (xs : List Extent) → AreGiven mode registers xs → ¬ ExtentsMean xs view
    → ¬ MeanFor mode registers view
same_not mode view registers xs are not m = not (by_means mode registers view xs are m)

pub verdict_yes : (mode : Mode) (view : View) (registers : Registers) (v : Verdict) → IsVerdict mode view registers v → true ≡ is_meant v
    → MeanFor mode registers view
verdict_yes mode view registers (verdicts.Means count) is meant = is.0
verdict_yes mode view registers (verdicts.Differs stretch) is meant = absurd cc
verdict_yes mode view registers (verdicts.Cuts entry at) is meant = absurd cc
verdict_yes mode view registers (verdicts.NoMeaning found) is meant = absurd cc

pub verdict_no : (mode : Mode) (view : View) (registers : Registers) (v : Verdict) → IsVerdict mode view registers v → false ≡ is_meant v
    → ¬ MeanFor mode registers view
verdict_no mode view registers (verdicts.Means count) is no' = absurd cc
verdict_no mode view registers (verdicts.Differs stretch) is no' =
    same_not mode view registers is.0 is.1 (differs_not mode view registers is.0 stretch is.1 is.2)
verdict_no mode view registers (verdicts.Cuts entry at) is no' = same_not mode view registers is.0 is.1 (cut_not view is.0 entry at is.2.first.cut.cut)
verdict_no mode view registers (verdicts.NoMeaning found) is no' =
    λ m. all_defined registers m.extents m.are_extents found.place is.inside found.value is.value.has

-- registers with a stretch that differs have extents
pub extents_given :
    (mode : Mode) (view : View) (registers : Registers) (all : Bool) (v : Verdict) → IsVerdict mode view registers v → (all && is_difference v) ≡ true
    → (extents : List Extent) × AreExtents registers extents
extents_given mode view registers false v is e = absurd cc
extents_given mode view registers true (verdicts.Means count) is e = absurd cc
extents_given mode view registers true (verdicts.Differs stretch) is e = (is.1.0, is.1.1)
extents_given mode view registers true (verdicts.Cuts entry at) is e = absurd cc
extents_given mode view registers true (verdicts.NoMeaning found) is e = absurd cc

-- an answer about the registers
pub answer_yes : (mode : Mode) (view : View) (listing : Listing) (means : Bool) → IsAnswer mode view listing means → means ≡ true
    → (unknown_bit listing.mseccfg ≡ None) × MeanFor mode listing.registers view
answer_yes mode view listing means (judged none verdict is) told = (none, verdict_yes mode view listing.registers verdict is (sym told))
answer_yes mode view listing means (unmodelled bit is) told = absurd cc

pub answer_no : (mode : Mode) (view : View) (listing : Listing) (means : Bool) → IsAnswer mode view listing means → means ≡ false
    → (unknown_bit listing.mseccfg ≢ None) ⊎ (¬ MeanFor mode listing.registers view)
answer_no mode view listing means (judged none verdict is) told = inr (verdict_no mode view listing.registers verdict is (sym told))
answer_no mode view listing means (unmodelled bit is) told = inl (λ none. one_or_none (unknown_bit listing.mseccfg) bit is none)
