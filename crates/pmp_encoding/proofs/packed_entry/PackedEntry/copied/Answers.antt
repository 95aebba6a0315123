-- The number says it all.
use Rattle.std.proofs.Common.{◌∙◌}
use Rattle.pmp_encoding.proofs.PackedEntries.{entry_same}
use Rattle.pmp_encoding.proofs.packed_entry.PackedEntry.copied.Goals as goal

pub returns : goal.returns
returns c = entry_same c.self.inside.number _ c.self.inside.block ∙ c.self.view_is
