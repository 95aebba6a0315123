use Rattle.std.proofs.Common.{◌≡◌, ◌≢◌, ◌-◌, ◌^◌, ◌<◌, ◌≤◌, ℕ}
use Rattle.register_audit.specs.Blocks.{exponent_from}
use Rattle.register_audit.proofs.block.exponent_below.Given as goal

abbrev pub invariant-loop-log2 : goal.invariant-loop-log2
invariant-loop-log2 l = record {
  from : exponent_from l.log2 (l.end - l.log2) l.size ≡ exponent_from 2 (l.end - 2) l.size;
  other : (k : ℕ) → 2 ≤ k → k < l.log2 → l.size ≢ 2 ^ k;
}
