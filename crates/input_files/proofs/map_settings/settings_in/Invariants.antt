use Rattle.std.proofs.Common.{◌≡◌, ◌++◌, ◌+◌, ◌≤◌, length}
use Rattle.std.specs.List.{All}
use Rattle.text_lines.specs.Lines.{raw_lines}
use Rattle.input_files.specs.Settings.{IsInside, settings_from}
use Rattle.input_files.proofs.map_settings.settings_in.Given as goal

abbrev pub decreases-loop-rest : goal.decreases-loop-rest
decreases-loop-rest l = length l.rest

abbrev pub invariant-loop-rest : goal.invariant-loop-rest
invariant-loop-rest l = record {
  set : l.settings.items ++ settings_from (l.line + 1) (raw_lines l.rest) ≡ settings_from 1 (raw_lines l.bytes);
  inside : All IsInside l.settings.items;
  counted : l.line + length l.rest ≤ length l.bytes;
}
