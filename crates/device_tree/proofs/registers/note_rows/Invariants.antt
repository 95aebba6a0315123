use Rattle.std.proofs.Common.{◌≡◌, ◌++◌, List, drop}
use Rattle.device_tree.specs.Windows.{path_of}
use Rattle.device_tree.specs.Meaning.{AreRanges, Range, said_of}
use Rattle.device_tree.proofs.registers.note_rows.Given as goal

abbrev pub invariant-loop-row : goal.invariant-loop-row
invariant-loop-row l = record {
  whole : (before : List Range)
      × ((later : List Range) → AreRanges (path_of l.way) l.node.0 l.node.1.now (drop l.row-index l.rows) later
      → AreRanges (path_of l.way) l.node.0 l.node.1.now l.rows (before ++ later))
      × (said_of l.found.items ≡ said_of l.initial.found.items ++ before);
}
