-- Lines that are followed one after another.
use Rattle.std.proofs.Common.{◌≡◌, ◌≤◌, ◌∙◌, ℕ, ◌+◌, List, [], ◌∷◌, ◌++◌, length, Option, None, Some, true, false, ap, refl, sym, arith}
use Rattle.std.proofs.lemmas.Bool.{le-leb}
use Rattle.std.proofs.lemmas.Option.{same_Some}
use Rattle.std.specs.Option.{option_and_then}
use Rattle.text_lines.specs.Lines.{IsShortLine, without_return}
use Rattle.pmp_encoding.specs.declared.xlen.Xlen.{Xlen}
use Rattle.register_audit.specs.declared.listing.Listing.{Listing}
use Rattle.register_audit.specs.declared.setting.Setting.{Setting}
use Rattle.register_audit.specs.declared.setting.Setting.TheVariants as settings
use Rattle.register_audit.specs.Lines.{line_sets, raw_sets}
use Rattle.register_audit.specs.RegisterListings.{IsFirstUnknown, agreed, agrees, line, end, listed, nothing_set, set_by, set_by_lines, sets_in, whole}

pub short_sets : (xlen : Xlen) (raw text : List ℕ) → IsShortLine raw → text ≡ without_return raw → raw_sets xlen raw ≡ line_sets xlen text
short_sets xlen raw text short is = rw (le-leb (length raw) 1023 short.1) (ap (line_sets xlen) (sym is))

-- one line more
pub set_by_more : (sets : Listing → List ℕ → Option Setting) (listing now : Listing) (n k : ℕ) (before : List (List ℕ)) (raw : List ℕ) (setting : Setting)
    → set_by_lines sets listing n before ≡ Some now → n + length before ≡ k
    → sets now raw ≡ Some setting → set_by_lines sets listing n (before ++ raw ∷ []) ≡ Some (set_by now k setting)
set_by_more sets listing now n k [] raw setting done at is =
    let same : listing ≡ now = same_Some listing now done in
    let here : n ≡ k = omega (arith, at) in
    ap (λ l. option_and_then (λ s. Some (set_by listing n s)) (sets l raw)) same
    ∙ ap (λ o. option_and_then (λ s. Some (set_by listing n s)) o) is
    ∙ ap (λ r. Some (set_by r n setting)) same ∙ ap (λ m. Some (set_by now m setting)) here
set_by_more sets listing now n k (first ∷ before) raw setting done at is =
    follow (sets listing first) (λ s h. set_by_more sets (set_by listing n s) now (n + 1) k before raw setting h (omega (arith, at)) is) done
  where
    follow : (o : Option Setting) → ((s : Setting) → set_by_lines sets (set_by listing n s) (n + 1) before ≡ Some now
        → set_by_lines sets (set_by listing n s) (n + 1) (before ++ raw ∷ []) ≡ Some (set_by now k setting))
        → option_and_then (λ s. set_by_lines sets (set_by listing n s) (n + 1) before) o ≡ Some now
        → option_and_then (λ s. set_by_lines sets (set_by listing n s) (n + 1) (before ++ raw ∷ [])) o ≡ Some (set_by now k setting)
    follow None rest h = absurd cc
    follow (Some s) rest h = rest s h

-- a line leaves the width as it is
pub set_width : (listing : Listing) (n : ℕ) (setting : Setting) → (set_by listing n setting).registers.xlen ≡ listing.registers.xlen
set_width listing n settings.Nothing = refl
set_width listing n (settings.Count entries) = refl
set_width listing n settings.Other = refl
set_width listing n (settings.Hart number) = refl
set_width listing n settings.Heading = refl
set_width listing n (settings.Limit entries) = refl
set_width listing n (settings.Security value) = refl
set_width listing n (settings.Pair place cfg address) = refl
set_width listing n (settings.Address place value) = refl
set_width listing n (settings.Word place value) = refl

-- a line adds one pair at most
pub set_pairs : (listing : Listing) (n : ℕ) (setting : Setting) → (set_by listing n setting).pairs ≤ listing.pairs + 1
set_pairs listing n settings.Nothing = omega arith
set_pairs listing n (settings.Count entries) = omega arith
set_pairs listing n settings.Other = omega arith
set_pairs listing n (settings.Hart number) = omega arith
set_pairs listing n settings.Heading = omega arith
set_pairs listing n (settings.Limit entries) = omega arith
set_pairs listing n (settings.Security value) = omega arith
set_pairs listing n (settings.Pair place cfg address) = omega arith
set_pairs listing n (settings.Address place value) = omega arith
set_pairs listing n (settings.Word place value) = omega arith

-- nothing is left where a line is not understood
stopped : (sets : Listing → List ℕ → Option Setting) (listing now : Listing) (n : ℕ) (before : List (List ℕ)) (raw : List ℕ) (rest : List (List ℕ))
    → set_by_lines sets listing n before ≡ Some now → sets now raw ≡ None
    → set_by_lines sets listing n (before ++ raw ∷ rest) ≡ None
stopped sets listing now n [] raw rest done none =
    ap (λ l. option_and_then (λ s. set_by_lines sets (set_by listing n s) (n + 1) rest) (sets l raw)) (same_Some listing now done)
    ∙ ap (λ o. option_and_then (λ s. set_by_lines sets (set_by listing n s) (n + 1) rest) o) none
stopped sets listing now n (first ∷ before) raw rest done none =
    follow (sets listing first) (λ s h. stopped sets (set_by listing n s) now (n + 1) before raw rest h none) done
  where
    follow : (o : Option Setting) → ((s : Setting) → set_by_lines sets (set_by listing n s) (n + 1) before ≡ Some now
        → set_by_lines sets (set_by listing n s) (n + 1) (before ++ raw ∷ rest) ≡ None)
        → option_and_then (λ s. set_by_lines sets (set_by listing n s) (n + 1) before) o ≡ Some now
        → option_and_then (λ s. set_by_lines sets (set_by listing n s) (n + 1) (before ++ raw ∷ rest)) o ≡ None
    follow None stays h = absurd cc
    follow (Some s) stays h = stays s h

pub unlisted : (xlen : Xlen) (bytes : List ℕ) (n : ℕ) → IsFirstUnknown xlen bytes n → listed xlen bytes ≡ None
unlisted xlen bytes n (line u) =
    ap (option_and_then whole)
    (ap (λ raws. set_by_lines (sets_in xlen bytes) (nothing_set xlen) 1 raws) u.are_lines
    ∙ stopped (sets_in xlen bytes) (nothing_set xlen) u.listing 1 u.before u.raw u.rest u.understood u.unknown)
unlisted xlen bytes n (end leaves is cut number) = ap (option_and_then whole) is ∙ rw cut refl

-- a setting that agrees with the lines before it
pub agreed_yes : (listing : Listing) (setting : Setting) (sets : Option Setting) → sets ≡ Some setting → agrees listing setting ≡ true
    → option_and_then (agreed listing) sets ≡ Some setting
agreed_yes listing setting sets is held = ap (option_and_then (agreed listing)) is ∙ rw held refl

pub agreed_no : (listing : Listing) (setting : Setting) (sets : Option Setting) → sets ≡ Some setting → agrees listing setting ≡ false
    → option_and_then (agreed listing) sets ≡ None
agreed_no listing setting sets is failed = ap (option_and_then (agreed listing)) is ∙ rw failed refl

pub none_agreed : (listing : Listing) (sets : Option Setting) → sets ≡ None → option_and_then (agreed listing) sets ≡ None
none_agreed listing sets is = ap (option_and_then (agreed listing)) is
