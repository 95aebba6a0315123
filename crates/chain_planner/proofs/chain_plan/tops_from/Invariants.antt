-- The entries made so far, and those that the remaining changes make, are all.
use Rattle.std.proofs.Common.{◌≡◌, ◌++◌, ◌^◌, drop}
use Rattle.chain_planner.specs.Turns.{TurnsWithin, tops_from}
use Rattle.chain_planner.proofs.chain_plan.tops_from.Given as goal

abbrev pub invariant-loop-turn : goal.invariant-loop-turn
invariant-loop-turn l = record {
  made : l.tops.items ++ tops_from l.perm (drop l.turn-index l.turns) ≡ tops_from l.initial.perm l.turns;
  within : TurnsWithin 0 (2 ^ 44) (drop l.turn-index l.turns);
}
