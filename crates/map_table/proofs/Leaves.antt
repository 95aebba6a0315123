-- The leaves of a tree: extents with their numbers, in some order.
use Rattle.std.proofs.Common.{◌≡◌, ◌∙◌, ℕ, zero, suc, ◌+◌, ◌<◌, ◌≤◌, List, [], ◌∷◌, All, get_or, length, true, false, ⊎_elim, ap, sym, refl, arith}
use Rattle.std.specs.List.{Contains}
use Rattle.std.specs.List.Sorted.{IsPermutation}
use Rattle.std.proofs.lemmas.Bool.{cases_lt}
use Rattle.std.proofs.lemmas.Bool.Decides.{nat_tests}
use Rattle.std.proofs.lemmas.List.{get_or_default, get_or_past}
use Rattle.std.proofs.lemmas.List.Elements.{All-contains_itself}
use Rattle.std.proofs.lemmas.List.Sorted.{All-permutation, IsPermutation-sym}
use Rattle.pmp_encoding.specs.declared.extent.Extent.{Extent}
use Rattle.pmp_match.specs.Tor.{nowhere}
use Rattle.map_table.specs.declared.hull_tree.Hull.{Hull}
use Rattle.map_table.specs.Hulls.{AllPast, IsNextLeaf, hull_of, is_past, no_hull, numbered}
use Rattle.map_table.specs.Meetings.{MissesAll, meets}

-- ---- the extents with their numbers

numbered_at : (n j : ℕ) (extents : List Extent) (d : Hull) → j < length extents → get_or (numbered n extents) j d ≡ hull_of (n + j) (get_or extents j nowhere)
numbered_at n j [] d h = absurd (omega (arith, h))
numbered_at n zero (x ∷ extents) d h = ap (λ k. hull_of k x) (omega arith)
numbered_at n (suc j) (x ∷ extents) d h = numbered_at (n + 1) j extents d (omega (arith, h)) ∙ ap (λ k. hull_of k (get_or extents j nowhere)) (omega arith)

length_numbered : (n : ℕ) (extents : List Extent) → length (numbered n extents) ≡ length extents
length_numbered n [] = refl
length_numbered n (x ∷ extents) = ap (λ k. suc k) (length_numbered (n + 1) extents)

-- a leaf is an extent of the list, with its number
pub record IsLeaf (extents : List Extent) (h : Hull) : Type 0 where
  pub inside : h.number < length extents
  pub is : h ≡ hull_of h.number (get_or extents h.number nowhere)

leaf_of_number : (extents : List Extent) (j : ℕ) (h : Hull) → j < length extents → h ≡ hull_of j (get_or extents j nowhere) → IsLeaf extents h
leaf_of_number extents j h inside is =
    let same : h.number ≡ j = ap (λ x. x.number) is in
    record { inside = omega (arith, same, inside); is = is ∙ ap (λ k. hull_of k (get_or extents k nowhere)) (sym same) }

all_leaves : (extents : List Extent) → All (IsLeaf extents) (numbered 0 extents)
all_leaves extents = λ j d h.
    let inside : j < length extents = omega (arith, h, length_numbered 0 extents) in
    leaf_of_number extents j (get_or (numbered 0 extents) j d) inside (numbered_at 0 j extents d inside
    ∙ ap (λ k. hull_of k (get_or extents j nowhere)) (omega arith))

-- the extent of a leaf
pub leaf_at : (extents : List Extent) (leaves : List Hull) (p : ℕ) → IsPermutation (numbered 0 extents) leaves → p < length leaves
    → IsLeaf extents (get_or leaves p no_hull)
leaf_at extents leaves p same inside = All-permutation (IsLeaf extents) (numbered 0 extents) leaves same (all_leaves extents) p no_hull inside

held : (leaves : List Hull) (h : Hull) → Contains leaves h → (p : ℕ) × (p < length leaves) × (get_or leaves p no_hull ≡ h)
held leaves h there = (there.0, there.1, get_or_default leaves there.0 no_hull h there.1 ∙ there.2)

-- the leaf of an extent
leaf_of :
    (extents : List Extent) (leaves : List Hull) (k : ℕ) → IsPermutation (numbered 0 extents) leaves → k < length extents
    → (p : ℕ) × (p < length leaves) × (get_or leaves p no_hull ≡ hull_of k (get_or extents k nowhere))
leaf_of extents leaves k same inside =
    let all : All (Contains leaves) (numbered 0 extents) =
    All-permutation (Contains leaves) leaves (numbered 0 extents) (IsPermutation-sym (numbered 0 extents) leaves same) (All-contains_itself leaves) in
    let there = held leaves (get_or (numbered 0 extents) k no_hull) (all k no_hull (omega (arith, inside, length_numbered 0 extents))) in
    (there.0, there.1, there.2 ∙ numbered_at 0 k extents no_hull inside ∙ ap (λ j. hull_of j (get_or extents k nowhere)) (omega arith))

-- ---- leaves that are past

past_less : (h : Hull) (bound less first end shorter : ℕ) → less ≤ bound → shorter ≤ end → is_past h bound first end ≡ true
    → is_past h less first shorter ≡ true
past_less h bound less first end shorter low short past = grind (arith, nat_tests)

pub past_number : (h : Hull) (bound first end : ℕ) → bound ≤ h.number → is_past h bound first end ≡ true
past_number h bound first end low = grind (arith, nat_tests)

pub past_base : (h : Hull) (bound first end : ℕ) → end ≤ h.base → is_past h bound first end ≡ true
past_base h bound first end low = grind (arith, nat_tests)

before_bound : (h : Hull) (bound first end : ℕ) → is_past h bound first end ≡ false → h.number < bound
before_bound h bound first end met = grind (arith, nat_tests)

before_end : (h : Hull) (bound first end : ℕ) → is_past h bound first end ≡ false → h.base < end
before_end h bound first end met = grind (arith, nat_tests)

met_at : (x : Extent) (n bound first end last : ℕ) → end ≤ last → is_past (hull_of n x) bound first end ≡ false → meets x first last ≡ true
met_at x n bound first end last short met = grind (arith, nat_tests)

missed_at : (x : Extent) (n bound first end : ℕ) → n < bound → is_past (hull_of n x) bound first end ≡ true → meets x first end ≡ false
missed_at x n bound first end low past = grind (arith, nat_tests)

nowhere_missed : (first end : ℕ) → meets nowhere first end ≡ false
nowhere_missed first end = grind (arith, nat_tests)

-- what is known of the extent of a leaf that is not past
pub record IsMet (extents : List Extent) (h : Hull) (bound first end last : ℕ) : Type 0 where
  pub inside : h.number < length extents
  pub number : h.number < bound
  pub nearer : h.base < end
  pub met : meets (get_or extents h.number nowhere) first last ≡ true
  pub base : (get_or extents h.number nowhere).base ≡ h.base

pub met_leaf :
    (extents : List Extent) (leaves : List Hull) (place found bound first end last : ℕ) → IsPermutation (numbered 0 extents) leaves → end ≤ last
    → IsNextLeaf leaves place bound first end found → IsMet extents (get_or leaves found no_hull) bound first end last
met_leaf extents leaves place found bound first end last same short next =
    let h : Hull = get_or leaves found no_hull in
    let leaf : IsLeaf extents h = leaf_at extents leaves found same next.inside in
    record {
      inside = leaf.inside;
      number = before_bound h bound first end next.met;
      nearer = before_end h bound first end next.met;
      met = met_at (get_or extents h.number nowhere) h.number bound first end last short (sym (ap (λ x. is_past x bound first end) leaf.is) ∙ next.met);
      base = sym (ap (λ x. x.base) leaf.is);
    }

-- each leaf before a place, of an extent from number `from` on, is past
abbrev pub ArePast : List Hull → ℕ → ℕ → ℕ → ℕ → ℕ → Type 0
ArePast leaves from place bound first end =
    (p : ℕ) → p < place → from ≤ (get_or leaves p no_hull).number → is_past (get_or leaves p no_hull) bound first end ≡ true

-- the leaves up to one that is not, for a lower bound or a nearer end
pub past_to :
    (leaves : List Hull) (from place found bound less first end shorter : ℕ) → less ≤ bound → shorter ≤ end
    → ArePast leaves from place bound first end → AllPast leaves place found bound first end
    → (from ≤ (get_or leaves found no_hull).number → is_past (get_or leaves found no_hull) less first shorter ≡ true)
    → ArePast leaves from (found + 1) less first shorter
past_to leaves from place found bound less first end shorter low short past between there =
    λ p inside later.
    ⊎_elim
    (λ before. past_less (get_or leaves p no_hull) bound less first end shorter low short (past p before later))
    (λ begun.
    ⊎_elim
    (λ under. past_less (get_or leaves p no_hull) bound less first end shorter low short (between p begun under))
    (λ over. let same : p ≡ found = omega (arith, inside, over) in rw same (there (rw same at later)))
    (cases_lt p found))
    (cases_lt p place)

-- the extents that have no leaf left
pub missed_all :
    (extents : List Extent) (leaves : List Hull) (from place bound first end : ℕ) → IsPermutation (numbered 0 extents) leaves
    → ArePast leaves from place bound first end → AllPast leaves place (length leaves) bound first end
    → MissesAll extents from bound first end
missed_all extents leaves from place bound first end same past rest =
    λ k low high.
    ⊎_elim
    (λ inside.
    let leaf = leaf_of extents leaves k same inside in
    let number : (get_or leaves leaf.0 no_hull).number ≡ k = ap (λ h. h.number) leaf.2 in
    let is : is_past (get_or leaves leaf.0 no_hull) bound first end ≡ true =
    ⊎_elim (λ before. past leaf.0 before (omega (arith, number, low))) (λ begun. rest leaf.0 begun leaf.1) (cases_lt leaf.0 place) in
    missed_at (get_or extents k nowhere) k bound first end high (sym (ap (λ h. is_past h bound first end) leaf.2) ∙ is))
    (λ outside. ap (λ x. meets x first end) (get_or_past extents k nowhere outside) ∙ nowhere_missed first end)
    (cases_lt k (length extents))
