use Rattle.std.proofs.Common.{◌≡◌, ℕ, ◌+◌, ◌-◌, ◌/◌, ◌≤◌, ◌&&◌, if◌then◌else◌, nat_lt, None}
use Rattle.hart_sim.specs.Memory.{in_range}
use Rattle.hart_sim.specs.Groups.{page_in}
use Rattle.hart_sim.proofs.memory.Memory.forget.Given as goal

abbrev pub invariant-loop-span : goal.invariant-loop-span
invariant-loop-span l = record {
  low : l.first / 4096 ≤ l.from;
  high : l.from ≤ (l.end + 4095) / 4096;
  pages : (q : ℕ) → page_in l.self q ≡ (if nat_lt (q / 4096) l.from && in_range l.first l.fn.count q then None else page_in l.initial.self q);
}

abbrev pub decreases-loop-span : goal.decreases-loop-span
decreases-loop-span l = (l.end + 4095) / 4096 - l.from
