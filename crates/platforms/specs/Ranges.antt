-- Ranges of whole pages, each given as a base and a size in bytes.
use Rattle.std.specs.Prelude.{◌≡◌, ℕ, ◌+◌, ◌/◌, ◌%◌, ◌^◌, ◌<◌, ◌≤◌, Bool, true, List, [], ◌∷◌, ⊤}
use Rattle.std.specs.List.{All, list_any}
use Rattle.pmp_encoding.specs.declared.perm.Perm.{Perm}
use Rattle.pmp_encoding.specs.Views.{in_range}

-- the range consists of whole pages, at least one, all below 2 ^ 56
pub record IsRange (range : ℕ × ℕ) : Type 0 where
  pub begins : range.0 % 4096 ≡ 0
  pub whole : range.1 % 4096 ≡ 0
  pub some : 0 < range.1
  pub inside : range.0 + range.1 ≤ 2 ^ 56

-- the range contains the page
abbrev pub has_page : (ℕ × ℕ) → ℕ → Bool
has_page range page = in_range (range.0 / 4096) (range.1 / 4096) page

-- the range of a device
abbrev pub device_range : (ℕ × ℕ × Perm) → ℕ × ℕ
device_range device = (device.0, device.1)

-- two ranges have no page in common
pub record AreRangesApart (range other : ℕ × ℕ) : Type 0 where
  pub apart : (page : ℕ) → has_page range page ≡ true → has_page other page ≡ true → ⊥

-- no two of the ranges have a page in common
abbrev pub EachApart : List (ℕ × ℕ) → Type 0
EachApart [] = ⊤
EachApart (range ∷ ranges) = All (AreRangesApart range) ranges × EachApart ranges

-- each of the `count` pages from `first` on is in one of the ranges
abbrev pub AreAmong : List (ℕ × ℕ) → ℕ → ℕ → Type 0
AreAmong ranges first count = (page : ℕ) → in_range first count page ≡ true
    → list_any (λ range. has_page range page) ranges ≡ true
