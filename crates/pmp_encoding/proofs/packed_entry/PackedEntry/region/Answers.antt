-- The parts of the number are those of the entry's region.
use Rattle.std.proofs.Common.{◌∙◌, ap}
use Rattle.pmp_encoding.proofs.PackedEntries.{region_same}
use Rattle.pmp_encoding.proofs.packed_entry.PackedEntry.region.Goals as goal

pub returns : goal.returns
returns c = region_same c.self.inside.number _ c.self.inside.block ∙ ap (λ e. e.region) c.self.view_is
