-- Positions in the chains of a list of spans.
use Rattle.std.specs.Prelude.{◌≡◌, ℕ, zero, suc, ◌<◌, ◌≤◌, List, length, slice_index}
use Rattle.std.specs.Prelude.{slice_index_or}
use Rattle.certificate_check.specs.declared.entries.Span.{Span}
use Rattle.certificate_check.specs.declared.chains.ChainCursor.{ChainCursor}
use Rattle.certificate_check.specs.Spans.{HaveEnded}

-- the position is before the chain of the spans `from` up to but excluding `to`, or at one of them
-- if the spans before that one have ended at or before the page
pub data IsPlace (spans : ℕ → Span) (from to page : ℕ) (place : ChainCursor) : Type 0 where
  before : place.next ≤ from → place.span.first ≡ 0 → place.span.end ≡ 0
      → IsPlace spans from to page place
  stands :
      (i : ℕ) → place.next ≡ suc i → from ≤ i → i < to → HaveEnded spans from i page
      → place.span ≡ spans i → place.span.first < place.span.end
      → IsPlace spans from to page place

-- the start of a chain: the end of the previous one
abbrev pub start_of : List ℕ → ℕ → ℕ
start_of ends zero = 0
start_of ends (suc k) = slice_index ends k

-- each chain has a position
abbrev pub ArePlaces : (ℕ → Span) → List ℕ → ℕ → List ChainCursor → Type 0
ArePlaces spans ends page places =
    (k : ℕ) (d : ChainCursor) → k < length ends
    → IsPlace spans (start_of ends k) (slice_index ends k) page (slice_index_or places k d)
