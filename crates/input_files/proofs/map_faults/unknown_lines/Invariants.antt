use Rattle.std.proofs.Common.{◌≡◌, ◌++◌, ◌+◌, ◌≤◌, length, map}
use Rattle.text_lines.specs.Lines.{raw_lines}
use Rattle.input_files.specs.Maps.{unknown_from}
use Rattle.input_files.proofs.map_faults.unknown_lines.Given as goal

abbrev pub decreases-loop-rest : goal.decreases-loop-rest
decreases-loop-rest l = length l.rest

abbrev pub invariant-loop-rest : goal.invariant-loop-rest
invariant-loop-rest l = record {
  found : map (λ it. it.line) l.unknown.items ++ unknown_from (l.line + 1) (raw_lines l.rest) ≡ unknown_from 1 (raw_lines l.bytes);
  counted : l.line + length l.rest ≤ length l.bytes;
}
