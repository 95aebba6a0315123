-- A header is spelled in one way, and at most one fault stands in its place.
use Rattle.std.proofs.Common.{◌≡◌, ℕ, ◌^◌, ◌<◌, ◌↔◌, inl, inr, List, ◌∷◌, ◌++◌, length, take, drop, lit<, refl, sym, ap, ap₂, subst, ◌∙◌, append_assoc}
use Rattle.std.proofs.Common.{length-append, Result, Err, arith}
use Rattle.certificate_format.specs.declared.fault.ReadFault.{ReadFault}
use Rattle.certificate_format.specs.declared.fault.ReadFault.TheVariants.{BadMagic, BadVersion, Truncated, BadTag, BadPerm, BadLimit}
use Rattle.pmp_encoding.specs.declared.limit.Limit.TheVariants.{Sixteen, SixtyFour}
use Rattle.certificate_format.specs.declared.header.Version.{Version}
use Rattle.certificate_format.specs.declared.header.Version.TheVariants.{One, Two}
use Rattle.certificate_format.specs.declared.header.Header.{Header}
use Rattle.certificate_format.specs.Spelling.{u32_bytes, magic, version_bytes, header_bytes}
use Rattle.certificate_format.specs.Faults.{ShortFault, MagicFault, VersionFault, HeaderFault, in_magic, in_version, in_count}
use Rattle.certificate_format.proofs.Numbers.{length-u32_bytes, same_u32}

-- no fault where the part is spelled
magic_stands : (bytes rest : List ℕ) (f : ReadFault) → bytes ≡ magic ++ rest → MagicFault bytes f → ⊥
magic_stands bytes rest Truncated e h = let long = ap length e in omega arith
magic_stands bytes rest BadMagic e h = h.1 (ap (take 4) e)
magic_stands bytes rest BadVersion e h = h
magic_stands bytes rest BadTag e h = h
magic_stands bytes rest BadPerm e h = h
magic_stands bytes rest BadLimit e h = h

version_stands : (bytes rest : List ℕ) (version : Version) (f : ReadFault) → bytes ≡ version_bytes version ++ rest → VersionFault bytes f → ⊥
version_stands bytes rest One Truncated e (inl h) = cc
version_stands bytes rest One Truncated e (inr h) = cc
version_stands bytes rest (Two Sixteen) Truncated e (inl h) = cc
version_stands bytes rest (Two Sixteen) Truncated e (inr h) = cc
version_stands bytes rest (Two SixtyFour) Truncated e (inl h) = cc
version_stands bytes rest (Two SixtyFour) Truncated e (inr h) = cc
version_stands bytes rest One BadVersion e (b, rest', same, not_one, not_two) = not_one (cc)
version_stands bytes rest (Two Sixteen) BadVersion e (b, rest', same, not_one, not_two) = not_two (cc)
version_stands bytes rest (Two SixtyFour) BadVersion e (b, rest', same, not_one, not_two) = not_two (cc)
version_stands bytes rest One BadLimit e (b, rest', same, not_16, not_64) = cc
version_stands bytes rest (Two Sixteen) BadLimit e (b, rest', same, not_16, not_64) = not_16 (cc)
version_stands bytes rest (Two SixtyFour) BadLimit e (b, rest', same, not_16, not_64) = not_64 (cc)
version_stands bytes rest version BadMagic e h = h
version_stands bytes rest version BadTag e h = h
version_stands bytes rest version BadPerm e h = h

-- one spelling
apart : (x y : ℕ) (a b : List ℕ) → x < y → x ∷ a ≡ y ∷ b → ⊥
apart x y a b less e = let same : x ≡ y = cc in omega arith

same_version : (v w : Version) (a b : List ℕ) → version_bytes v ++ a ≡ version_bytes w ++ b → (v ≡ w) × (a ≡ b)
same_version One One a b e = (refl, ap (drop 1) e)
same_version One (Two Sixteen) a b e = absurd (apart 1 2 a (0x10 ∷ b) (lit< tt) e)
same_version One (Two SixtyFour) a b e = absurd (apart 1 2 a (0x40 ∷ b) (lit< tt) e)
same_version (Two Sixteen) One a b e = absurd (apart 1 2 b (0x10 ∷ a) (lit< tt) (sym e))
same_version (Two SixtyFour) One a b e = absurd (apart 1 2 b (0x40 ∷ a) (lit< tt) (sym e))
same_version (Two Sixteen) (Two Sixteen) a b e = (refl, ap (drop 2) e)
same_version (Two Sixteen) (Two SixtyFour) a b e = absurd (apart 0x10 0x40 a b (lit< tt) (ap (drop 1) e))
same_version (Two SixtyFour) (Two Sixteen) a b e = absurd (apart 0x10 0x40 b a (lit< tt) (sym (ap (drop 1) e)))
same_version (Two SixtyFour) (Two SixtyFour) a b e = (refl, ap (drop 2) e)

same_magic : (a b : List ℕ) → magic ++ a ≡ magic ++ b → a ≡ b
same_magic a b e = ap (drop 4) e

-- one fault in a part
magic_once : (bytes : List ℕ) (f g : ReadFault) → MagicFault bytes f → MagicFault bytes g → f ≡ g
magic_once bytes Truncated Truncated h w = refl
magic_once bytes BadMagic BadMagic h w = refl
magic_once bytes Truncated BadMagic h w = absurd (omega (arith, w.0))
magic_once bytes BadMagic Truncated h w = absurd (omega (arith, h.0))
magic_once bytes BadVersion _ h w = absurd h
magic_once bytes BadTag _ h w = absurd h
magic_once bytes BadPerm _ h w = absurd h
magic_once bytes BadLimit _ h w = absurd h
magic_once bytes _ BadVersion h w = absurd w
magic_once bytes _ BadTag h w = absurd w
magic_once bytes _ BadPerm h w = absurd w
magic_once bytes _ BadLimit h w = absurd w

pub short_once : (n : ℕ) (bytes : List ℕ) (f g : ReadFault) → ShortFault n bytes f → ShortFault n bytes g → f ≡ g
short_once n bytes Truncated Truncated h w = refl
short_once n bytes Truncated _ h w = absurd w
short_once n bytes _ g h w = absurd h

version_once : (bytes : List ℕ) (f g : ReadFault) → VersionFault bytes f → VersionFault bytes g → f ≡ g
version_once bytes Truncated Truncated h w = refl
version_once bytes BadVersion BadVersion h w = refl
version_once bytes BadLimit BadLimit h w = refl
version_once bytes Truncated BadVersion (inl h) (b, rest, same, not_one, not_two) = cc
version_once bytes Truncated BadVersion (inr h) (b, rest, same, not_one, not_two) = absurd (not_two (cc))
version_once bytes Truncated BadLimit (inl h) (b, rest, same, not_16, not_64) = cc
version_once bytes Truncated BadLimit (inr h) (b, rest, same, not_16, not_64) = cc
version_once bytes BadVersion Truncated (b, rest, same, not_one, not_two) (inl h) = cc
version_once bytes BadVersion Truncated (b, rest, same, not_one, not_two) (inr h) = absurd (not_two (cc))
version_once bytes BadLimit Truncated (b, rest, same, not_16, not_64) (inl h) = cc
version_once bytes BadLimit Truncated (b, rest, same, not_16, not_64) (inr h) = cc
version_once bytes BadVersion BadLimit (b, rest, same, not_one, not_two) (b', rest', same', not_16, not_64) = absurd (not_two (cc))
version_once bytes BadLimit BadVersion (b', rest', same', not_16, not_64) (b, rest, same, not_one, not_two) = absurd (not_two (cc))
version_once bytes BadMagic _ h w = absurd h
version_once bytes BadTag _ h w = absurd h
version_once bytes BadPerm _ h w = absurd h
version_once bytes _ BadMagic h w = absurd w
version_once bytes _ BadTag h w = absurd w
version_once bytes _ BadPerm h w = absurd w

-- after the magic the parts are the same
behind : (bytes a b : List ℕ) → bytes ≡ magic ++ a → bytes ≡ magic ++ b → a ≡ b
behind bytes a b e e' = same_magic a b (sym e ∙ e')

-- at most one fault of a header
pub header_once : (bytes : List ℕ) (f g : ReadFault) → HeaderFault bytes f → HeaderFault bytes g → f ≡ g
header_once bytes f g (in_magic h) (in_magic w) = magic_once bytes f g h w
header_once bytes f g (in_magic h) (in_version rest e w) = absurd (magic_stands bytes rest f e h)
header_once bytes f g (in_magic h) (in_count version rest e w) = absurd (magic_stands bytes (version_bytes version ++ rest) f e h)
header_once bytes f g (in_version rest e h) (in_magic w) = absurd (magic_stands bytes rest g e w)
header_once bytes f g (in_count version rest e h) (in_magic w) = absurd (magic_stands bytes (version_bytes version ++ rest) g e w)
header_once bytes f g (in_version rest e h) (in_version rest' e' w) = let same = behind bytes rest' rest e' e in let w' = subst
    (λ (r : List ℕ). VersionFault r g) same w in version_once rest f g h w'
header_once bytes f g (in_version rest e h) (in_count version rest' e' w) = absurd
    (version_stands rest rest' version f (behind bytes rest (version_bytes version ++ rest') e e') h)
header_once bytes f g (in_count version rest e h) (in_version rest' e' w) = absurd
    (version_stands rest' rest version g (behind bytes rest' (version_bytes version ++ rest) e' e) w)
header_once bytes f g (in_count version rest e h) (in_count version' rest' e' w) =
    let same = same_version version' version rest' rest (behind bytes (version_bytes version' ++ rest') (version_bytes version ++ rest) e' e) in
    short_once 4 rest f g h (subst (λ (r : List ℕ). ShortFault 4 r g) same.1 w)

-- none where one is spelled
spelled_as : (header : Header) (rest : List ℕ) → header_bytes header ++ rest ≡ magic ++ (version_bytes header.version ++ (u32_bytes header.count ++ rest))
spelled_as header rest = ap (λ (tail : List ℕ). magic ++ tail) (append_assoc (version_bytes header.version) (u32_bytes header.count) rest)

short_count : (n : ℕ) (bytes rest : List ℕ) (f : ReadFault) → bytes ≡ u32_bytes n ++ rest → ShortFault 4 bytes f → ⊥
short_count n bytes rest Truncated e h = omega (arith, ap length e, length-append (u32_bytes n) rest, length-u32_bytes n)
short_count n bytes rest BadMagic e h = h
short_count n bytes rest BadVersion e h = h
short_count n bytes rest BadTag e h = h
short_count n bytes rest BadPerm e h = h
short_count n bytes rest BadLimit e h = h

pub header_stands : (bytes : List ℕ) (header : Header) (rest : List ℕ) (f : ReadFault) → bytes ≡ header_bytes header ++ rest → HeaderFault bytes f → ⊥
header_stands bytes header rest f e (in_magic h) = magic_stands bytes (version_bytes header.version ++ (u32_bytes header.count ++ rest)) f
    (e ∙ spelled_as header rest) h
header_stands bytes header rest f e (in_version rest' e' h) =
    version_stands rest' (u32_bytes header.count ++ rest) header.version f
    (behind bytes rest' (version_bytes header.version ++ (u32_bytes header.count ++ rest)) e' (e ∙ spelled_as header rest)) h
header_stands bytes header rest f e (in_count version rest' e' h) =
    let both = behind bytes (version_bytes version ++ rest') (version_bytes header.version ++ (u32_bytes header.count ++ rest)) e'
    (e ∙ spelled_as header rest) in
    short_count header.count rest' rest f (same_version version header.version rest' (u32_bytes header.count ++ rest) both).1 h

header_of : Version → ℕ → Header
header_of version count = record { version = version; count = count }

-- one spelling of a header
pub same_header : (h g : Header) (a b : List ℕ) → h.count < 2 ^ 32 → g.count < 2 ^ 32 → header_bytes h ++ a ≡ header_bytes g ++ b → (h ≡ g) × (a ≡ b)
unfolding header_of
same_header h g a b fits_h fits_g e =
    let both = same_magic (version_bytes h.version ++ (u32_bytes h.count ++ a)) (version_bytes g.version ++ (u32_bytes g.count ++ b))
    (sym (spelled_as h a) ∙ e ∙ spelled_as g b) in
    let version = same_version h.version g.version (u32_bytes h.count ++ a) (u32_bytes g.count ++ b) both in
    let count = same_u32 h.count g.count a b fits_h fits_g version.1 in
    (ap₂ (λ (v : Version) (n : ℕ). header_of v n) version.0 count.0, count.1)

-- the same for the bytes of a cursor
pub err_exactly : (bytes all : List ℕ) (e : ReadFault) → bytes ≡ all → HeaderFault bytes e → (f : ReadFault)
    → (◌≡◌ {A = Result Header ReadFault} (Err e) (Err f)) ↔ HeaderFault all f
err_exactly bytes all e same h f =
    let here = subst (λ (b : List ℕ). HeaderFault b e) same h in
    (λ q. let one : e ≡ f = cc in subst (λ (x : ReadFault). HeaderFault all x) one here, λ w. ap Err (header_once all e f here w))
