-- Two ranges of a platform file that have a page in common.
use Rattle.std.specs.Prelude.{◌≡◌, ℕ, ◌+◌, ◌<◌, List, [], ◌∷◌, ◌++◌, drop, get_or, map, slice_get}
use Rattle.std.specs.Prelude.{Some}
use Rattle.std.specs.List.{All}
use Rattle.pmp_encoding.specs.declared.perm.Perm.{Perm}
use Rattle.platforms.specs.Ranges.{AreRangesApart, device_range}
use Rattle.input_files.specs.declared.breach.PlacedRange.{PlacedRange}
use Rattle.input_files.specs.declared.breach.TomlPath.{TomlPath}
use Rattle.input_files.specs.declared.breach.TomlPath.TheVariants.{Ram, Device}

-- ranges with their places, if the first has number n
abbrev pub placed_from : (ℕ → TomlPath) → ℕ → List (ℕ × ℕ) → List PlacedRange
placed_from place n [] = []
placed_from place n (range ∷ ranges) = record { place = place n; bounds = range }
    ∷ placed_from place (n + 1) ranges

-- the ranges of memory and of devices, each with its place, counted from 1
abbrev pub placed_ranges : List (ℕ × ℕ) → List (ℕ × ℕ × Perm) → List PlacedRange
placed_ranges ram devices = placed_from Ram 1 ram ++ placed_from Device 1 (map device_range devices)

-- the first two of these ranges that have a page in common, where `other` precedes `one`: each
-- range before `other` is apart from all later ones, and `other` is apart from those between
pub record IsOverlap (ranges : List PlacedRange) (one other : PlacedRange) : Type 0 where
  pub before : ℕ
  pub behind : ℕ
  pub other_is : slice_get ranges before ≡ Some other
  pub one_is : slice_get (drop (before + 1) ranges) behind ≡ Some one
  pub not_apart : AreRangesApart other.bounds one.bounds → ⊥
  pub none_before : (k : ℕ) (d : PlacedRange) → k < before
      → All (λ (later : PlacedRange). AreRangesApart (get_or ranges k d).bounds later.bounds)
      (drop (k + 1) ranges)
  pub none_between : (j : ℕ) (d : PlacedRange) → j < behind
      → AreRangesApart other.bounds (get_or (drop (before + 1) ranges) j d).bounds
