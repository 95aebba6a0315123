use Rattle.std.proofs.Common.{drop}
use Rattle.host_tree.specs.Boards.{IsHart}
use Rattle.host_tree.proofs.there.is_hart.Given as goal

abbrev pub invariant-loop-one : goal.invariant-loop-one
invariant-loop-one l = record {
  none : (IsHart (drop l.one-index l.harts) l.hart → ⊥) → IsHart l.harts l.hart → ⊥;
  some : IsHart (drop l.one-index l.harts) l.hart → IsHart l.harts l.hart;
}
