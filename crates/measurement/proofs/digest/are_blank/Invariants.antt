use Rattle.std.proofs.Common.{◌≡◌, ℕ, ◌+◌, ◌<◌}
use Rattle.measurement.specs.Digests.{blank_page}
use Rattle.measurement.proofs.digest.are_blank.Given as goal

abbrev pub invariant-loop-i : goal.invariant-loop-i
invariant-loop-i g l = (i : ℕ) → i < l.i → g.P.Pages.bytes_of l.pages (l.first + i) ≡ blank_page
