use Rattle.std.proofs.Common.{◌≡◌, ◌+◌, drop}
use Rattle.std.specs.List.{prefix_len}
use Rattle.text_lines.specs.Words.{is_allowed}
use Rattle.text_lines.proofs.file_lines.allowed_len.Given as goal

abbrev pub invariant-loop-i : goal.invariant-loop-i
invariant-loop-i l = l.i + prefix_len (is_allowed) (drop l.i l.line) ≡ prefix_len (is_allowed) l.line
