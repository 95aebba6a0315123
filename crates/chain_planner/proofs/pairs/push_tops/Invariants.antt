-- The pairs made so far, and those of the remaining entries, are all.
use Rattle.std.proofs.Common.{◌≡◌, ◌++◌, drop}
use Rattle.chain_planner.specs.Spelled.{top_pairs}
use Rattle.chain_planner.proofs.pairs.push_tops.Given as goal

abbrev pub invariant-loop-top : goal.invariant-loop-top
invariant-loop-top l = l.pairs.items ++ top_pairs (drop l.top-index l.tops) ≡ l.initial.pairs.items ++ top_pairs l.tops
