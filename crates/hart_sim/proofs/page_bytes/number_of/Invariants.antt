use Rattle.std.proofs.Common.{◌≡◌, ◌+◌, ◌-◌, ◌^◌, ◌<◌, ◌≤◌, slice_index}
use Rattle.hart_sim.specs.Memory.{bytes_at, number_of_bytes}
use Rattle.hart_sim.proofs.page_bytes.number_of.Given as goal

abbrev pub invariant-loop-left : goal.invariant-loop-left
invariant-loop-left l = record {
  within : l.left ≤ l.size;
  value : l.number ≡ number_of_bytes (bytes_at (slice_index l.page) (l.at + l.left) (l.size - l.left));
  small : l.number < 256 ^ (l.size - l.left);
}

abbrev pub decreases-loop-left : goal.decreases-loop-left
decreases-loop-left l = l.left
