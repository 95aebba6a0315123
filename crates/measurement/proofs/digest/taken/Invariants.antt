use Rattle.std.proofs.Common.{◌/◌}
use Rattle.measurement.specs.Progress.{HasMeasured}
use Rattle.measurement.specs.Digests.{layout_of, pages_from}
use Rattle.measurement.proofs.digest.taken.Given as goal

abbrev pub invariant-loop-i : goal.invariant-loop-i
invariant-loop-i g l = HasMeasured l.measure (layout_of l.parts) (pages_from (g.P.Pages.bytes_of l.pages) (l.parts.base / 4096) l.i)
