-- Ranges with and without a page in common.
use Rattle.std.proofs.Common.{◌≡◌, ℕ, zero, suc, ◌+◌, ◌-◌, ◌<◌, ◌≤◌, List, [], ◌∷◌, ◌++◌, length, take, drop, map, get_or, true, false, inl, inr, arith, subst}
use native.Mathlib.Numerals.{unary_clauses}
use Rattle.std.specs.List.{All, AllByRecursion}
use Rattle.std.proofs.lemmas.Bool.Decides.{nat_tests}
use Rattle.std.specs.Bool.{IsTrue}
use Rattle.std.proofs.lemmas.Bool.{cases_lt, false≢true}
use Rattle.std.proofs.lemmas.Grind.{common_steps}
use Rattle.std.proofs.lemmas.List.Elements.{All-append, All-map, All-from_recursion, recursion_from_All}
use Rattle.std.proofs.lemmas.List.{get_or_default, get_or-map, length-map}
use Rattle.pmp_encoding.specs.declared.perm.Perm.{Perm}
use Rattle.pmp_encoding.specs.Views.{in_range}
use Rattle.platforms.specs.Ranges.{AreRangesApart, EachApart, device_range}

pub inside : (first count page : ℕ) → first ≤ page → page < first + count → in_range first count page ≡ true
inside first count page low high = grind (arith, nat_tests)

-- a test that answers what does not hold
pub never : {P : Type 0} → (P → ⊥) → (IsTrue false → P) × (P → IsTrue false)
never not = (λ e. absurd (false≢true e), λ p. absurd (not p))

-- the rest of a list after a place
pub rest_is : {X : Type 0} (i : ℕ) (xs : List X) → take (length xs - (i + 1)) (drop (i + 1) xs) ≡ drop (i + 1) xs
rest_is i xs = grind (arith, common_steps)

drop_behind : {X : Type 0} (k : ℕ) (x : X) (xs : List X) → drop (suc k + 1) (x ∷ xs) ≡ drop (k + 1) xs
drop_behind k x xs = simp unary_clauses

-- what holds at each place before i, and at i, holds at each before i + 1
pub one_more :
    {X : Type 0} (P : ℕ → X → Type 0) (xs : List X) (i : ℕ) (e : X) → i < length xs → ((k : ℕ) (d : X) → k < i → P k (get_or xs k d)) → P i (get_or xs i e)
    → (k : ℕ) (d : X) → k < i + 1 → P k (get_or xs k d)
one_more P xs i e low before here k d below =
    elim (cases_lt k i) [
      | inl less ↦ before k d less
      | inr more ↦ let same : i ≡ k = omega arith in
          subst (λ j. P j (get_or xs j d)) same (subst (P i) (get_or_default xs i e d low) here)
    ]

-- what holds of each device's range
pub of_ranges : (range : ℕ × ℕ) (xs : List (ℕ × ℕ × Perm)) → All (λ device. AreRangesApart range (device_range device)) xs
    → All (AreRangesApart range) (map device_range xs)
of_ranges range xs all = All-map (AreRangesApart range) device_range xs all

pub of_devices : (range : ℕ × ℕ) (xs : List (ℕ × ℕ × Perm)) → All (AreRangesApart range) (map device_range xs)
    → All (λ device. AreRangesApart range (device_range device)) xs
of_devices range xs all = λ k d low. rw (get_or-map device_range xs k d (device_range d) low) at
    (all k (device_range d) (omega (arith, length-map xs device_range)))

front_of : (P : ℕ × ℕ → Type 0) (xs ys : List (ℕ × ℕ)) → AllByRecursion P (xs ++ ys) → AllByRecursion P xs
front_of P [] ys all = tt
front_of P (x ∷ xs) ys all = (all.0, front_of P xs ys all.1)

back_of : (P : ℕ × ℕ → Type 0) (xs ys : List (ℕ × ℕ)) → AllByRecursion P (xs ++ ys) → AllByRecursion P ys
back_of P [] ys all = all
back_of P (x ∷ xs) ys all = back_of P xs ys all.1

front_all : (P : ℕ × ℕ → Type 0) (xs ys : List (ℕ × ℕ)) → All P (xs ++ ys) → All P xs
front_all P xs ys all = All-from_recursion P xs (front_of P xs ys (recursion_from_All P (xs ++ ys) all))

back_all : (P : ℕ × ℕ → Type 0) (xs ys : List (ℕ × ℕ)) → All P (xs ++ ys) → All P ys
back_all P xs ys all = All-from_recursion P ys (back_of P xs ys (recursion_from_All P (xs ++ ys) all))

-- what is checked of each range makes the whole list apart, and the other way round
pub each_from :
    (xs ys : List (ℕ × ℕ)) → EachApart ys → ((k : ℕ) (d : ℕ × ℕ) → k < length xs
    → All (AreRangesApart (get_or xs k d)) (drop (k + 1) xs) × All (AreRangesApart (get_or xs k d)) ys) → EachApart (xs ++ ys)
each_from [] ys rest here = rest
each_from (x ∷ xs) ys rest here = (
  All-append (AreRangesApart x) xs ys (here 0 x (omega arith)).0 (here 0 x (omega arith)).1,
  each_from xs ys rest (λ k d low. rw (drop_behind k x xs) at (here (suc k) d (omega arith))),
)

pub apart_at : (xs ys : List (ℕ × ℕ)) (k : ℕ) (d : ℕ × ℕ) → k < length xs → EachApart (xs ++ ys)
    → All (AreRangesApart (get_or xs k d)) (drop (k + 1) xs) × All (AreRangesApart (get_or xs k d)) ys
apart_at [] ys k d low each = absurd (omega arith)
apart_at (x ∷ xs) ys zero d low each = (front_all (AreRangesApart x) xs ys each.0, back_all (AreRangesApart x) xs ys each.0)
apart_at (x ∷ xs) ys (suc k) d low each = rw (drop_behind k x xs) (apart_at xs ys k d (omega arith) each.1)

pub rest_apart : (xs ys : List (ℕ × ℕ)) → EachApart (xs ++ ys) → EachApart ys
rest_apart [] ys each = each
rest_apart (x ∷ xs) ys each = rest_apart xs ys each.1

pub devices_from :
    (xs : List (ℕ × ℕ × Perm)) → ((k : ℕ) (d : ℕ × ℕ × Perm) → k < length xs
    → All (AreRangesApart (device_range (get_or xs k d))) (map device_range (drop (k + 1) xs))) → EachApart (map device_range xs)
devices_from [] here = tt
devices_from (x ∷ xs) here = (here 0 x (omega arith), devices_from xs (λ k d low. rw (drop_behind k x xs) at (here (suc k) d (omega arith))))

pub device_at :
    (xs : List (ℕ × ℕ × Perm)) (k : ℕ) (d : ℕ × ℕ × Perm) → k < length xs → EachApart (map device_range xs)
    → All (AreRangesApart (device_range (get_or xs k d))) (map device_range (drop (k + 1) xs))
device_at [] k d low each = absurd (omega arith)
device_at (x ∷ xs) zero d low each = each.0
device_at (x ∷ xs) (suc k) d low each = rw (drop_behind k x xs) (device_at xs k d (omega arith) each.1)
