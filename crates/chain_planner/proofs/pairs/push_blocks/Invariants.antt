-- The pairs made so far, and those of the remaining entries, are all.
use Rattle.std.proofs.Common.{◌≡◌, ◌++◌, drop}
use Rattle.chain_planner.specs.Spelled.{block_pairs}
use Rattle.chain_planner.proofs.pairs.push_blocks.Given as goal

abbrev pub invariant-loop-entry : goal.invariant-loop-entry
invariant-loop-entry l = l.pairs.items ++ block_pairs (drop l.entry-index l.blocks) ≡ l.initial.pairs.items ++ block_pairs l.blocks
