use Rattle.std.proofs.Common.{ℕ, ◌<◌, ◌≤◌, length, slice_index}
use Rattle.pmp_encoding.specs.Faults.{IsFaultless}
use Rattle.pmp_encoding.specs.Lists.{MeansList}
use Rattle.pmp_encoding.specs.Registers.{cfg_byte}
use Rattle.planner_for_c.specs.Registers.{pairs_to}
use Rattle.planner_for_c.proofs.judge.entries_of.Given as goal

abbrev pub invariant-loop-place : goal.invariant-loop-place
invariant-loop-place l = record {
  list : MeansList (pairs_to l.registers l.place) l.entries.items;
  few : length l.entries.items ≤ l.place;
  below : (i : ℕ) → i < l.place → IsFaultless (cfg_byte l.registers.cfg i) (slice_index l.registers.addr i);
}
