use Rattle.std.proofs.Common.{List, [], ◌++◌, All, drop}
use Rattle.input_files.specs.declared.idle_lines.IdleLine.{IdleLine}
use Rattle.input_files.specs.declared.idle_lines.Numbered.{Numbered}
use Rattle.input_files.specs.Settings.{AreNamed, IsInside, SetTo}
use Rattle.input_files.proofs.idle_lines.idle_lines.Given as goal

abbrev pub invariant-loop-i : goal.invariant-loop-i
invariant-loop-i l = record {
  inside : All IsInside l.kept.items;
  whole : SetTo [] (l.kept.items ++ drop l.i l.settings) l.whole;
  named : (named : List IdleLine) (left : List Numbered) → AreNamed l.whole l.kept.items (drop l.i l.settings) named left
      → AreNamed l.whole [] l.settings (l.idle.items ++ named) left;
}
