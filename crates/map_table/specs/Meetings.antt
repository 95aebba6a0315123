-- Extents that contain bytes of a piece of the space.
use Rattle.std.specs.Prelude.{◌≡◌, ℕ, ◌<◌, ◌≤◌, ◌&&◌, nat_lt, Bool, true, false, List, get_or}
use Rattle.std.specs.Prelude.{length}
use Rattle.pmp_encoding.specs.declared.extent.Extent.{Extent}
use Rattle.pmp_match.specs.Tor.{nowhere}

-- the extent begins before the end of the piece and ends after its first byte
abbrev pub meets : Extent → ℕ → ℕ → Bool
meets x first end = nat_lt x.base end && nat_lt first x.end

-- no extent from number `from` up to `to` meets the piece
abbrev pub MissesAll : List Extent → ℕ → ℕ → ℕ → ℕ → Type 0
MissesAll extents from to first end = (k : ℕ) → from ≤ k → k < to
    → meets (get_or extents k nowhere) first end ≡ false

-- the first extent from number `from` on that meets the piece
pub record IsNextMeeting (extents : List Extent) (from first end number : ℕ) : Type 0 where
  pub later : from ≤ number
  pub inside : number < length extents
  pub met : meets (get_or extents number nowhere) first end ≡ true
  pub before : MissesAll extents from number first end

-- no extent before number `bound` meets the piece up to the cut; if the cut is before `end`, an
-- extent that meets the piece up to `end` begins there
pub record IsCut (extents : List Extent) (bound first end cut : ℕ) : Type 0 where
  pub most : cut ≤ end
  pub missed : MissesAll extents 0 bound first cut
  pub begun : cut < end → (k : ℕ) × (k < bound)
      × (meets (get_or extents k nowhere) first end ≡ true)
      × ((get_or extents k nowhere).base ≡ cut)
