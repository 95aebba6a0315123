-- What the entries from a place on say of an access.
use Rattle.std.proofs.Common.{◌≡◌, ℕ, zero, suc, ◌+◌, ◌<◌, ◌≤◌, ◌↔◌, ◌⊎◌, inl, inr, ⊎_elim, List, [], ◌∷◌, length, get_or, true, sym, subst, arith}
use Rattle.std.proofs.lemmas.Bool.{cases_lt}
use Rattle.pmp_encoding.specs.declared.extent.Extent.{Extent}
use Rattle.pmp_match.specs.declared.access.Access.{Access}
use Rattle.pmp_match.specs.declared.registers.Registers.{Registers}
use Rattle.pmp_match.specs.RegisterDecision.{ContainsAll, Meets}
use Rattle.pmp_match.specs.RegisterMatching.{AreExtents, AreExtentsFrom, IsExtentAt}
use Rattle.pmp_match.proofs.Matched.{one_extent}
use Rattle.pmp_match.specs.Kinds.{holds}
use Rattle.register_audit.specs.Decision.{LetsThrough, Misses, RegistersAllow, default_perm, matched, unmatched}

-- ---- the extents by their places

extent_from : (registers : Registers) (first : ℕ) (xs : List Extent) → AreExtentsFrom registers first xs → (i : ℕ) (d : Extent) → i < length xs
    → IsExtentAt registers (first + i) (get_or xs i d)
extent_from registers first [] are i d inside = absurd (omega (arith, inside))
extent_from registers first (x ∷ xs) are zero d inside = let same : first ≡ first + 0 = omega arith in subst (λ p. IsExtentAt registers p x) same are.0
extent_from registers first (x ∷ xs) are (suc i) d inside =
    let same : first + 1 + i ≡ first + suc i = omega arith in
    subst (λ p. IsExtentAt registers p (get_or xs i d)) same (extent_from registers (first + 1) xs are.1 i d (omega (arith, inside)))

pub extent_in : (registers : Registers) (xs : List Extent) → AreExtents registers xs → (place : ℕ) (d : Extent) → place < 64
    → IsExtentAt registers place (get_or xs place d)
extent_in registers xs are place d inside =
    let same : 0 + place ≡ place = omega arith in
    subst (λ p. IsExtentAt registers p (get_or xs place d)) same (extent_from registers 0 xs are.each place d (omega (arith, inside, are.count)))

pub misses_by : (registers : Registers) (a : Access) (place : ℕ) (x : Extent) → IsExtentAt registers place x → ¬ Meets x a → Misses registers a place
misses_by registers a place x is off y at m = off (subst (λ z. Meets z a) (one_extent registers place y x at is) m)

-- ---- from a place on

-- the entry of a place decides, of those from the first place on
pub record IsDecidedFrom (registers : Registers) (a : Access) (first place : ℕ) (x : Extent) : Type 0 where
  pub low : first ≤ place
  pub inside : place < 64
  pub is_extent : IsExtentAt registers place x
  pub met : Meets x a
  pub missed : (lower : ℕ) → first ≤ lower → lower < place → Misses registers a lower

-- the entries from the first place on say yes
pub data AllowFrom (registers : Registers) (a : Access) (first : ℕ) : Type 0 where
  by_place : (place : ℕ) (x : Extent) → IsDecidedFrom registers a first place x → ContainsAll x a → LetsThrough registers a place x
      → AllowFrom registers a first
  by_none : ((place : ℕ) → first ≤ place → place < 64 → Misses registers a place) → holds (default_perm registers a.mode) a.kind ≡ true
      → AllowFrom registers a first

module _ (registers : Registers) (a : Access) where
  all_from : RegistersAllow registers a → AllowFrom registers a 0
  all_from (matched place x d whole may) =
      by_place place x
      (record { low = omega arith; inside = d.inside; is_extent = d.is_extent; met = d.met; missed = λ lower low less. d.missed lower less })
      whole may
  all_from (unmatched none may) = by_none (λ place low inside. none place inside) may

  from_all : AllowFrom registers a 0 → RegistersAllow registers a
  from_all (by_place place x d whole may) =
      matched place x
      (record { inside = d.inside; is_extent = d.is_extent; met = d.met; missed = λ lower less. d.missed lower (omega arith) less })
      whole may
  from_all (by_none none may) = unmatched (λ place inside. none place (omega arith) inside) may

  pub allow_all : RegistersAllow registers a ↔ AllowFrom registers a 0
  allow_all = (all_from, from_all)

  -- no entry is left
  past_left : (first : ℕ) → 64 ≤ first → AllowFrom registers a first → holds (default_perm registers a.mode) a.kind ≡ true
  past_left first past (by_place place x d whole may) = absurd (omega (arith, past, d.low, d.inside))
  past_left first past (by_none none may) = may

  pub allow_past : (first : ℕ) → 64 ≤ first → AllowFrom registers a first ↔ (holds (default_perm registers a.mode) a.kind ≡ true)
  allow_past first past = (past_left first past, (λ may. by_none (λ place low inside. absurd (omega (arith, past, low, inside))) may))

  -- the first of them misses
  at_or_above : (first place : ℕ) → first ≤ place → (first ≡ place) ⊎ (first + 1 ≤ place)
  at_or_above first place low = ⊎_elim (λ less. inr (omega (arith, less))) (λ over. inl (omega (arith, low, over))) (cases_lt first place)

  over_missed : (first : ℕ) → Misses registers a first → AllowFrom registers a first → AllowFrom registers a (first + 1)
  over_missed first off (by_place place x d whole may) =
      ⊎_elim
      (λ same. absurd (off x (subst (λ p. IsExtentAt registers p x) (sym same) d.is_extent) d.met))
      (λ above. by_place place x
      (record { low = above; inside = d.inside; is_extent = d.is_extent; met = d.met; missed = λ lower low less. d.missed lower (omega (arith, low)) less })
      whole may)
      (at_or_above first place d.low)
  over_missed first off (by_none none may) = by_none (λ place low inside. none place (omega (arith, low)) inside) may

  under_missed : (first : ℕ) → Misses registers a first → AllowFrom registers a (first + 1) → AllowFrom registers a first
  under_missed first off (by_place place x d whole may) =
      by_place place x
      (record {
        low = omega (arith, d.low);
        inside = d.inside;
        is_extent = d.is_extent;
        met = d.met;
        missed = λ lower low less. ⊎_elim (λ same. subst (λ p. Misses registers a p) same off) (λ above. d.missed lower above less)
            (at_or_above first lower low);
      })
      whole may
  under_missed first off (by_none none may) =
      by_none (λ place low inside. ⊎_elim (λ same. subst (λ p. Misses registers a p) same off) (λ above. none place above inside) (at_or_above first place low))
      may

  pub allow_missed : (first : ℕ) → Misses registers a first → AllowFrom registers a first ↔ AllowFrom registers a (first + 1)
  allow_missed first off = (over_missed first off, under_missed first off)

  -- the first of them has a byte of the access
  decided_by : (first : ℕ) (x : Extent) → first < 64 → IsExtentAt registers first x → Meets x a → AllowFrom registers a first
      → ContainsAll x a × LetsThrough registers a first x
  decided_by first x inside is met (by_place place y d whole may) =
      ⊎_elim
      (λ same.
      let here : IsExtentAt registers first y = subst (λ p. IsExtentAt registers p y) (sym same) d.is_extent in
      let equal : y ≡ x = one_extent registers first y x here is in
      (subst (λ z. ContainsAll z a) equal whole, subst (λ z. LetsThrough registers a first z) equal (subst (λ p. LetsThrough registers a p y) (sym same) may)))
      (λ above. absurd (d.missed first (omega arith) (omega (arith, above)) x is met))
      (at_or_above first place d.low)
  decided_by first x inside is met (by_none none may) = absurd (none first (omega arith) inside x is met)

  pub allow_met : (first : ℕ) (x : Extent) → first < 64 → IsExtentAt registers first x → Meets x a
      → AllowFrom registers a first ↔ (ContainsAll x a × LetsThrough registers a first x)
  allow_met first x inside is met = (
    decided_by first x inside is met,
    (λ may. by_place first x (record {
      low = omega arith;
      inside = inside;
      is_extent = is;
      met = met;
      missed = λ lower low less. absurd
          (omega (arith, low, less));
    }) may.0 may.1),
  )

-- one more entry misses
pub missed_with : (registers : Registers) (a : Access) (n : ℕ) → ((place : ℕ) → place < n → Misses registers a place) → Misses registers a n → (place : ℕ)
    → place < n + 1 → Misses registers a place
missed_with registers a n below off place less =
    ⊎_elim (λ under. below place under) (λ over. let same : n ≡ place = omega (arith, over, less) in subst (λ p. Misses registers a p) same off)
    (cases_lt place n)
