use Rattle.std.proofs.Common.{ℕ, drop}
use Rattle.host_tree.specs.Boards.{Has}
use Rattle.host_tree.proofs.there.left_at.Given as goal

abbrev pub invariant-loop-range : goal.invariant-loop-range
invariant-loop-range l = record {
  none : (Has (drop l.range-index l.memory) l.address → ⊥) → Has l.memory l.address → ⊥;
  some : (at : ℕ) → Has (drop l.range-index l.memory) at → Has l.memory at;
}
