use Rattle.std.proofs.Common.{◌≡◌, ◌≤◌, ◌-◌, ◌*◌, List, ◌++◌, drop, length}
use Rattle.device_tree.specs.Cells.{AreRows, row_len}
use Rattle.device_tree.specs.declared.rows.Extent.{Extent}
use Rattle.device_tree.proofs.rows.rows_of.Given as goal

abbrev pub invariant-rows : goal.invariant-rows
invariant-rows l = record {
  within : l.at ≤ length l.bytes;
  even : l.at ≡ length l.rows.items * row_len l.cells;
  whole : (later : List Extent) → AreRows l.cells (drop l.at l.bytes) later → AreRows l.cells l.bytes (l.rows.items ++ later);
}

abbrev pub decreases-rows : goal.decreases-rows
decreases-rows l = length l.bytes - l.at
