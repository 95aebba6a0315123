-- Ranges that have no page in common, and ranges with their places.
use Rattle.std.proofs.Common.{◌≡◌, ◌∙◌, ℕ, suc, ◌+◌, ◌<◌, List, [], ◌∷◌, ◌++◌, All, ap, arith, drop, get_or, inl, inr, length, map, refl}
use native.Mathlib.Numerals.{unary_clauses}
use Rattle.std.proofs.lemmas.List.Elements.{All-map}
use Rattle.pmp_encoding.specs.declared.perm.Perm.{Perm}
use Rattle.platforms.specs.Ranges.{AreRangesApart, EachApart, device_range}
use Rattle.platforms.specs.declared.platform.PlatformFault.{PlatformFault}
use Rattle.platforms.specs.declared.platform.PlatformFault.TheVariants.{Overlap}
use Rattle.input_files.specs.Breaches.{BreaksRule}
use Rattle.input_files.specs.declared.breach.TomlPath.{TomlPath}
use Rattle.input_files.specs.declared.breach.TomlPath.TheVariants.{Ram, Device}
use Rattle.input_files.specs.declared.breach.PlacedRange.{PlacedRange}
use Rattle.input_files.specs.Overlaps.{placed_from, placed_ranges}

abbrev pub bounds_of : PlacedRange → ℕ × ℕ
bounds_of range = range.bounds

drop_behind : {X : Type 0} (k : ℕ) (x : X) (xs : List X) → drop (suc k + 1) (x ∷ xs) ≡ drop (k + 1) xs
drop_behind k x xs = simp unary_clauses

-- each is apart from those behind it
pub each_apart :
    (xs : List PlacedRange) → ((k : ℕ) (d : PlacedRange) → k < length xs → All (λ (other : PlacedRange). AreRangesApart (get_or xs k d).bounds other.bounds)
    (drop (k + 1) xs)) → EachApart (map bounds_of xs)
each_apart [] here = tt
each_apart (x ∷ xs) here = (
  All-map (AreRangesApart x.bounds) bounds_of xs (here 0 x (omega arith)),
  each_apart xs (λ k d low. rw (drop_behind k x xs) at (here (suc k) d (omega arith))),
)

bounds_from : (place : ℕ → TomlPath) (n : ℕ) (ranges : List (ℕ × ℕ)) → map bounds_of (placed_from place n ranges) ≡ ranges
bounds_from place n [] = refl
bounds_from place n (range ∷ ranges) = ap (λ xs. range ∷ xs) (bounds_from place (n + 1) ranges)

both : (place : ℕ → TomlPath) (n : ℕ) (ranges : List (ℕ × ℕ)) (more : List PlacedRange)
    → map bounds_of (placed_from place n ranges ++ more) ≡ ranges ++ map bounds_of more
both place n [] more = refl
both place n (range ∷ ranges) more = ap (λ xs. range ∷ xs) (both place (n + 1) ranges more)

-- the ranges alone
pub bounds_are : (ram : List (ℕ × ℕ)) (devices : List (ℕ × ℕ × Perm)) → map bounds_of (placed_ranges ram devices) ≡ ram ++ map device_range devices
bounds_are ram devices = both Ram 1 ram (placed_from Device 1 (map device_range devices))
    ∙ ap (λ xs. ram ++ xs) (bounds_from Device 1 (map device_range devices))

-- where the rule on pages in common is the first that is broken, two ranges have one
pub not_apart :
    (monitor : ℕ × ℕ) (ram : List (ℕ × ℕ)) (devices : List (ℕ × ℕ × Perm)) (harts entries : ℕ) (fault : PlatformFault) → fault ≡ Overlap
    → BreaksRule monitor ram devices harts entries fault
    → EachApart (ram ++ map device_range devices) → ⊥
not_apart monitor ram devices harts entries fault is (inl first) each = cc
not_apart monitor ram devices harts entries fault is (inr (ranges, inl here)) each = here.1 each
not_apart monitor ram devices harts entries fault is (inr (ranges, inr (apart, inl third))) each = cc
not_apart monitor ram devices harts entries fault is (inr (ranges, inr (apart, inr (among, inl fourth)))) each = cc
not_apart monitor ram devices harts entries fault is (inr (ranges, inr (apart, inr (among, inr (few, inl fifth))))) each = cc
not_apart monitor ram devices harts entries fault is (inr (ranges, inr (apart, inr (among, inr (few, inr (harts_few, inl sixth)))))) each = cc
not_apart monitor ram devices harts entries fault is (inr (ranges, inr (apart, inr (among, inr (few, inr (harts_few, inr (entries_are, none))))))) each = none
