use Rattle.std.proofs.Common.{◌≡◌, ◌<◌, ℕ, false, get_or}
use Rattle.platforms.specs.Ranges.{has_page}
use Rattle.platforms.proofs.ranges.end_at.Given as goal

abbrev pub invariant-loop-range : goal.invariant-loop-range
invariant-loop-range l = (k : ℕ) (d : ℕ × ℕ) → k < l.range-index → has_page (get_or l.ranges k d) l.page ≡ false
