use Rattle.std.proofs.Common.{◌≡◌, ◌+◌, ◌<◌, ℕ, drop}
use Rattle.device_tree.specs.Windows.{parent_address}
use Rattle.device_tree.proofs.ways.step_to_parent.Given as goal

abbrev pub invariant-loop-window : goal.invariant-loop-window
invariant-loop-window l = record {
  some : 0 < l.len;
  none : (k : ℕ) → k < l.len → parent_address (drop l.window-index l.windows) (l.address + k) ≡ parent_address l.windows (l.address + k);
}
