use Rattle.std.proofs.Common.{◌≡◌, ◌≤◌, ◌-◌, ◌*◌, List, ◌++◌, drop, length}
use Rattle.device_tree.specs.Windows.{AreWindows, window_len}
use Rattle.device_tree.specs.declared.ways.Window.{Window}
use Rattle.device_tree.proofs.ways.windows_of.Given as goal

abbrev pub invariant-windows : goal.invariant-windows
invariant-windows l = record {
  within : l.at ≤ length l.ranges;
  even : l.at ≡ length l.windows.items * window_len l.cells l.outer;
  whole : (later : List Window) → AreWindows l.cells l.outer (drop l.at l.ranges) later → AreWindows l.cells l.outer l.ranges (l.windows.items ++ later);
}

abbrev pub decreases-windows : goal.decreases-windows
decreases-windows l = length l.ranges - l.at
