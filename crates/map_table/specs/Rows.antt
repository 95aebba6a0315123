-- The rows of a table.
use Rattle.std.specs.Prelude.{ℕ, ◌+◌, ◌<◌, ◌&&◌, nat_lt, Bool, if◌then◌else◌, List, [], ◌∷◌}
use Rattle.std.specs.Prelude.{length, IfSome}
use Rattle.pmp_encoding.specs.declared.extent.Extent.{Extent}
use Rattle.map_table.specs.declared.stretch.Stretch.{Stretch}

-- a stretch with at least one byte, and with the number of an extent of the list or none
pub record IsRow (extents : List Extent) (s : Stretch) : Type 0 where
  pub some : s.first < s.end
  pub number : IfSome s.entry (λ i. i < length extents)

-- the extent contains some byte of the stretch
abbrev pub meets : Extent → Stretch → Bool
meets x s = nat_lt x.base s.end && nat_lt s.first x.end

-- the numbers of the extents that contain some byte of the stretch, if the first of the list has
-- the number n
abbrev pub overridden_from : ℕ → List Extent → Stretch → List ℕ
overridden_from n [] s = []
overridden_from n (x ∷ extents) s = if meets x s then n ∷ overridden_from (n + 1) extents s
    else overridden_from (n + 1) extents s
