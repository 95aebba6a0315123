use Rattle.std.proofs.Common.{◌≡◌, ◌&&◌, drop}
use Rattle.std.specs.List.{list_all}
use Rattle.text_lines.specs.Words.{is_plain}
use Rattle.text_lines.proofs.lexical.all_plain.Given as goal

abbrev pub invariant-loop-b : goal.invariant-loop-b
invariant-loop-b l = (l.all && list_all is_plain (drop l.b-index l.text)) ≡ list_all is_plain l.text
