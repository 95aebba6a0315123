-- The entries appended so far, and the remaining ones, are all.
use Rattle.std.proofs.Common.{◌≡◌, ◌++◌, drop}
use Rattle.map_text.specs.ListedEntries.{listed_blocks}
use Rattle.chain_entries.proofs.push_blocks.Given as goal

abbrev pub invariant-loop-entry : goal.invariant-loop-entry
invariant-loop-entry l = l.entries.items ++ listed_blocks (drop l.entry-index l.blocks) ≡ l.initial.entries.items ++ listed_blocks l.blocks
