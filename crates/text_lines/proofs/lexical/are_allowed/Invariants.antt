use Rattle.std.proofs.Common.{◌≡◌, ◌&&◌, drop}
use Rattle.std.specs.List.{list_all}
use Rattle.text_lines.specs.Words.{is_allowed}
use Rattle.text_lines.proofs.lexical.are_allowed.Given as goal

abbrev pub invariant-loop-b : goal.invariant-loop-b
invariant-loop-b l = (l.all && list_all is_allowed (drop l.b-index l.text)) ≡ list_all is_allowed l.text
