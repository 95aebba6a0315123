-- Pairs of a base and a size, one behind another.
use Rattle.std.proofs.Common.{◌≡◌, ℕ, zero, suc, ◌-◌, ◌*◌, ◌<◌, ◌≤◌, Bool, true, false, cond, sym, ap, refl, ◌∙◌, arith}
use Rattle.std.proofs.Common.{List, [], ◌∷◌, ◌++◌, length, drop, slice_index, append_assoc, length-append}
use Rattle.std.specs.Prelude.{eqb}
use Rattle.std.proofs.lemmas.List.{drop_all}
use Rattle.device_tree.specs.declared.rows.Extent.{Extent}
use Rattle.host_tree.specs.Platforms.{IsClipped, flat_words, pairs_in, triples_in}
use Rattle.host_tree.proofs.Numbers.{drop_front}

pub pair_step : (F : ℕ → List ℕ → List Extent) (left : ℕ) (rest later : List ℕ) (x : Extent) (old new all : List Extent) → 0 < left
    → F (suc (left - 1)) rest ≡ x ∷ F (left - 1) later → new ≡ old ++ x ∷ [] → old ++ F left rest ≡ all → new ++ F (left - 1) later ≡ all
pair_step F left rest later x old new all some first is was =
    let e : suc (left - 1) ≡ left = omega arith in
    ap (λ (z : List Extent). z ++ F (left - 1) later) is ∙ append_assoc old (x ∷ []) (F (left - 1) later)
    ∙ ap (λ (z : List Extent). old ++ z) (sym first) ∙ ap (λ (n : ℕ). old ++ F n rest) e ∙ was

pub flat_back : (xs : List Extent) (zeros : List ℕ) → pairs_in (length xs) (flat_words xs ++ zeros) ≡ xs
flat_back [] zeros = refl
flat_back (x ∷ xs) zeros = ap (λ (z : List Extent). x ∷ z) (flat_back xs zeros)

pub pairs_are : (count : ℕ) (words zeros : List ℕ) (xs : List Extent) → count ≡ length xs → words ≡ flat_words xs ++ zeros → pairs_in count words ≡ xs
pairs_are count words zeros xs e w = ap (λ (n : ℕ). pairs_in n words) e ∙ ap (λ (z : List ℕ). pairs_in (length xs) z) w ∙ flat_back xs zeros

pub no_pair : (count : ℕ) (words : List ℕ) → length words < 2 → pairs_in count words ≡ []
no_pair zero words h = refl
no_pair (suc n) [] h = refl
no_pair (suc n) (a ∷ []) h = refl
no_pair (suc n) (a ∷ b ∷ later) h = absurd (omega (arith, h))

pub one_pair : (count : ℕ) (words : List ℕ) → 2 ≤ length words
    → pairs_in (suc count) words ≡ record { base = slice_index words 0; size = slice_index words 1 } ∷ pairs_in count (drop 2 words)
one_pair n [] h = absurd (omega (arith, h))
one_pair n (a ∷ []) h = absurd (omega (arith, h))
one_pair n (a ∷ b ∷ later) h = refl

pub no_triple : (count : ℕ) (words : List ℕ) → length words < 3 → triples_in count words ≡ []
no_triple zero words h = refl
no_triple (suc n) [] h = refl
no_triple (suc n) (a ∷ []) h = refl
no_triple (suc n) (a ∷ b ∷ []) h = refl
no_triple (suc n) (a ∷ b ∷ d ∷ later) h = absurd (omega (arith, h))

pub one_triple : (count : ℕ) (words : List ℕ) → 3 ≤ length words
    → triples_in (suc count) words ≡ record { base = slice_index words 0; size = slice_index words 1 } ∷ triples_in count (drop 3 words)
one_triple n [] h = absurd (omega (arith, h))
one_triple n (a ∷ []) h = absurd (omega (arith, h))
one_triple n (a ∷ b ∷ []) h = absurd (omega (arith, h))
one_triple n (a ∷ b ∷ d ∷ later) h = refl

-- so many words, and so many pairs
flat_len : (xs : List Extent) → length (flat_words xs) ≡ 2 * length xs
flat_len [] = refl
flat_len (x ∷ xs) = omega (arith, flat_len xs)

-- words of pairs in front of words that stay
pub words_behind : (count : ℕ) (old new : List ℕ) (xs : List Extent) → count ≡ length xs → new ≡ flat_words xs ++ drop (2 * length xs) old
    → drop (2 * count) new ≡ drop (2 * count) old
words_behind count old new xs e w = ap (λ (n : ℕ). drop (2 * n) new) e ∙ ap (λ (z : List ℕ). drop (2 * length xs) z) w
    ∙ drop_front (2 * length xs) (flat_words xs) (drop (2 * length xs) old) (flat_len xs) ∙ ap (λ (n : ℕ). drop (2 * n) old) (sym e)

pub flat_all : (xs : List Extent) (words : List ℕ) (i : ℕ) → length xs ≤ i → words ++ flat_words (drop i xs) ≡ flat_words xs → length words ≡ 2 * length xs
flat_all xs words i more is =
    let none = ap (λ (z : List Extent). length (flat_words z)) (drop_all i xs more) in
    omega (arith, none, ap length is, length-append words (flat_words (drop i xs)), flat_len xs)

pub pairs_few : (count : ℕ) (words : List ℕ) → 2 * length (pairs_in count words) ≤ length words
pairs_few zero words = omega arith
pairs_few (suc n) [] = omega arith
pairs_few (suc n) (a ∷ []) = omega arith
pairs_few (suc n) (a ∷ b ∷ later) = omega (arith, pairs_few n later)

-- of each range at most one is left
one_left : (t : Bool) (x : Extent) → length (cond t [] (x ∷ [])) ≤ 1
one_left true x = omega arith
one_left false x = omega arith

pub clipped_few : (memory xs kept : List Extent) → IsClipped memory xs kept → length kept ≤ length xs
clipped_few memory [] kept h = omega (arith, ap length h)
clipped_few memory (x ∷ xs) kept h =
    let here = ap length h.2.2 in
    let one = one_left (eqb h.2.0 0) (record { base = x.base; size = h.2.0 }) in
    omega (arith, here, one, clipped_few memory xs h.1 h.3, ap length h.4, length-append h.0 h.1)
