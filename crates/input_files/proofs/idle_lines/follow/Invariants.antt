use Rattle.std.proofs.Common.{ℕ, List, drop}
use Rattle.permission_map.specs.declared.runs.Run.{Run}
use Rattle.input_files.specs.Settings.{IsTooManyAfter, SetTo}
use Rattle.input_files.proofs.idle_lines.follow.Given as goal

abbrev pub invariant-loop-numbered : goal.invariant-loop-numbered
invariant-loop-numbered l = record {
  all : (after : List Run) → SetTo l.map (drop l.numbered-index l.settings) after → SetTo l.initial.map l.settings after;
  many : (n : ℕ) → IsTooManyAfter n l.map (drop l.numbered-index l.settings) → IsTooManyAfter n l.initial.map l.settings;
}
