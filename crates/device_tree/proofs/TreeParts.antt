-- Bytes begin with at most one part, and it is not empty.
use Rattle.std.proofs.Common.{◌≡◌, ℕ, ◌+◌, ◌<◌, List, [], ◌∷◌, ◌++◌, append_assoc, length, drop, sym, ap, ap₂, subst, refl, ◌∙◌, arith, length-drop}
use Rattle.device_tree.specs.Words.{BeginsWith, BeginsWithText, Leaves, padded, word_at}
use Rattle.device_tree.specs.declared.pieces.Token.{Token}
use Rattle.device_tree.specs.declared.pieces.Token.TheVariants.{BeginNode, EndNode, Property, Nop, End}
use Rattle.device_tree.specs.Pieces.{Part, token_number, Setting, begins, has, ends, SpellsPart, SpellsParts, the_end, skipped, part}

pub two_words : (bytes : List ℕ) (x y : ℕ) → BeginsWith bytes x → BeginsWith bytes y → x ≡ y
two_words bytes x y h w = sym h.spelt ∙ w.spelt

pub same_text : (bytes t u : List ℕ) → BeginsWithText bytes t → BeginsWithText bytes u → t ≡ u
same_text bytes t u h w = h.spelt ∙ sym w.spelt

same_rest : (bytes : List ℕ) (m n : ℕ) (r t : List ℕ) → m ≡ n → Leaves bytes m r → Leaves bytes n t → r ≡ t
same_rest bytes m n r t e h w = h.behind ∙ ap (λ k. drop k bytes) e ∙ sym w.behind

setting_of : List ℕ → List ℕ → Setting
setting_of n v = record { name = n; value = v }

same_setting : (s t : Setting) → s.name ≡ t.name → s.value ≡ t.value → s ≡ t
unfolding setting_of
same_setting s t n v = ap₂ (λ a b. setting_of a b) n v

-- bytes begin with one part
pub same_part : (strings bytes : List ℕ) (p q : Part) (r t : List ℕ) → SpellsPart strings bytes p r → SpellsPart strings bytes q t → (p ≡ q) × (r ≡ t)
same_part strings bytes (begins n) (begins m) r t h w =
    let same = same_text (drop 4 bytes) n m h.1 w.1 in
    (ap begins same, same_rest bytes _ _ r t (ap (λ x. 4 + padded (length x + 1)) same) h.2 w.2)
same_part strings bytes (has s) (has u) r t h w =
    let name = same_text (drop (word_at bytes 8) strings) s.name u.name h.2 w.2 in
    let value : s.value ≡ u.value = h.3 ∙ sym w.3 in
    (ap has (same_setting s u name value), same_rest bytes _ _ r t refl h.4 w.4)
same_part strings bytes ends ends r t h w = (refl, same_rest bytes 4 4 r t refl h.1 w.1)
same_part strings bytes (begins n) (has u) r t h w = let e = two_words bytes 1 3 h.0 w.0 in cc
same_part strings bytes (begins n) ends r t h w = let e = two_words bytes 1 2 h.0 w.0 in cc
same_part strings bytes (has s) (begins m) r t h w = let e = two_words bytes 3 1 h.0 w.0 in cc
same_part strings bytes (has s) ends r t h w = let e = two_words bytes 3 2 h.0 w.0 in cc
same_part strings bytes ends (begins m) r t h w = let e = two_words bytes 2 1 h.0 w.0 in cc
same_part strings bytes ends (has u) r t h w = let e = two_words bytes 2 3 h.0 w.0 in cc

fewer : (bytes : List ℕ) (n : ℕ) (r : List ℕ) → 0 < n → Leaves bytes n r → length r < length bytes
fewer bytes n r some h = omega (arith, h.inside, ap length h.behind, length-drop n bytes, some)

-- and it has a byte
pub shorter : (strings bytes : List ℕ) (p : Part) (r : List ℕ) → SpellsPart strings bytes p r → length r < length bytes
shorter strings bytes (begins n) r h = fewer bytes (4 + padded (length n + 1)) r (omega arith) h.2
shorter strings bytes (has s) r h = fewer bytes (12 + padded (word_at bytes 4)) r (omega arith) h.4
shorter strings bytes ends r h = fewer bytes 4 r (omega arith) h.1

-- parts that begin with a token of no meaning
pub behind_nop : (strings bytes : List ℕ) (parts : List Part) → BeginsWith bytes 4 → SpellsParts strings bytes parts → SpellsParts strings (drop 4 bytes) parts
behind_nop strings bytes parts w (the_end h e) = let x = two_words bytes 4 9 w h in cc
behind_nop strings bytes parts w (skipped h later) = later
behind_nop strings bytes parts w (part {first = begins n} h later) = let x = two_words bytes 4 1 w h.0 in cc
behind_nop strings bytes parts w (part {first = has s} h later) = let x = two_words bytes 4 3 w h.0 in cc
behind_nop strings bytes parts w (part {first = ends} h later) = let x = two_words bytes 4 2 w h.0 in cc

-- parts that begin with this one
pub behind_part : (strings bytes : List ℕ) (p : Part) (r : List ℕ) (parts : List Part) → SpellsPart strings bytes p r → SpellsParts strings bytes parts
    → (later : List Part) × (parts ≡ p ∷ later) × SpellsParts strings r later
behind_part strings bytes (begins n) r parts w (the_end h e) = let x = two_words bytes 1 9 w.0 h in cc
behind_part strings bytes (has s) r parts w (the_end h e) = let x = two_words bytes 3 9 w.0 h in cc
behind_part strings bytes ends r parts w (the_end h e) = let x = two_words bytes 2 9 w.0 h in cc
behind_part strings bytes (begins n) r parts w (skipped h more) = let x = two_words bytes 1 4 w.0 h in cc
behind_part strings bytes (has s) r parts w (skipped h more) = let x = two_words bytes 3 4 w.0 h in cc
behind_part strings bytes ends r parts w (skipped h more) = let x = two_words bytes 2 4 w.0 h in cc
behind_part strings bytes p r parts w (part {rest = t} {first = q} {parts = later} h more) =
    let same = same_part strings bytes q p t r h w in
    (later, ap (λ x. x ∷ later) same.0, subst (λ x. SpellsParts strings x later) same.1 more)

-- no part follows the end
pub behind_end : (strings bytes : List ℕ) (parts : List Part) → BeginsWith bytes 9 → SpellsParts strings bytes parts → (parts ≡ []) × (length bytes ≡ 4)
behind_end strings bytes parts w (the_end h e) = (refl, e)
behind_end strings bytes parts w (skipped h later) = let x = two_words bytes 9 4 w h in cc
behind_end strings bytes parts w (part {first = begins n} h later) = let x = two_words bytes 9 1 w h.0 in cc
behind_end strings bytes parts w (part {first = has s} h later) = let x = two_words bytes 9 3 w h.0 in cc
behind_end strings bytes parts w (part {first = ends} h later) = let x = two_words bytes 9 2 w h.0 in cc

-- and no parts without a token
pub no_token : (strings bytes : List ℕ) → ((token : Token) → BeginsWith bytes (token_number token) → ⊥) → (parts : List Part)
    → SpellsParts strings bytes parts → ⊥
no_token strings bytes none parts (the_end h e) = none End h
no_token strings bytes none parts (skipped h later) = none Nop h
no_token strings bytes none parts (part {first = begins n} h later) = none BeginNode h.0
no_token strings bytes none parts (part {first = has s} h later) = none Property h.0
no_token strings bytes none parts (part {first = ends} h later) = none EndNode h.0

-- the parts so far, and those that the rest spells
pub taken : (strings block bytes rest : List ℕ) (before : List Part) (p : Part)
    → ((later : List Part) → SpellsParts strings bytes later → SpellsParts strings block (before ++ later))
    → SpellsPart strings bytes p rest → (later : List Part) → SpellsParts strings rest later → SpellsParts strings block ((before ++ p ∷ []) ++ later)
taken strings block bytes rest before p whole h later spelt =
    subst (λ x. SpellsParts strings block x) (sym (append_assoc before (p ∷ []) later)) (whole (p ∷ later) (part h spelt))

pub left_behind : (strings block bytes rest : List ℕ) (before : List Part) (p : Part)
    → ((parts : List Part) → SpellsParts strings block parts → (later : List Part) × (parts ≡ before ++ later) × SpellsParts strings bytes later)
    → SpellsPart strings bytes p rest
    → (parts : List Part) → SpellsParts strings block parts → (later : List Part) × (parts ≡ (before ++ p ∷ []) ++ later) × SpellsParts strings rest later
left_behind strings block bytes rest before p left h parts spelt =
    let was = left parts spelt in
    let next = behind_part strings bytes p rest was.0 h was.2 in
    (next.0, was.1 ∙ ap (λ x. before ++ x) next.1 ∙ sym (append_assoc before (p ∷ []) next.0), next.2)

-- bytes are one list of parts
pub same_parts : (strings bytes : List ℕ) (p q : List Part) → SpellsParts strings bytes p → SpellsParts strings bytes q → p ≡ q
same_parts strings bytes p q (the_end h e) w = sym (behind_end strings bytes q h w).0
same_parts strings bytes p q (skipped h later) w = same_parts strings (drop 4 bytes) p q later (behind_nop strings bytes q h w)
same_parts strings bytes (first ∷ p) q (part {rest = r} h later) w =
    let next = behind_part strings bytes first r q h w in
    ap (λ (x : List Part). first ∷ x) (same_parts strings r p next.0 later next.2) ∙ sym next.1
