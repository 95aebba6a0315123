-- The extents of the entries so far.
use Rattle.std.proofs.Common.{◌≡◌, take}
use Rattle.pmp_match.specs.Lists.{matched_by}
use Rattle.map_table.proofs.stretch.extents_of.Given as goal

abbrev pub invariant-loop-entry : goal.invariant-loop-entry
invariant-loop-entry l = l.all.items ≡ matched_by (take l.entry-index l.entries)
