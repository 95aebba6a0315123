-- Short names of what definitions say at length.
use Rattle.std.specs.Prelude.{ℕ, Bool, List}
use Rattle.std.specs.List.{list_any}
use Rattle.platforms.specs.Ranges.{has_page}

-- whether a page is in one of the ranges
abbrev pub is_among : List (ℕ × ℕ) → ℕ → Bool
is_among ranges page = list_any (λ range. has_page range page) ranges
