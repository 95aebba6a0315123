use Rattle.std.proofs.Common.{◌≡◌, ◌+◌, drop, not}
use Rattle.std.specs.List.{prefix_len}
use Rattle.text_lines.specs.Words.{is_blank}
use Rattle.text_lines.proofs.lexical.word_len.Given as goal

abbrev pub invariant-loop-i : goal.invariant-loop-i
invariant-loop-i l = l.i + prefix_len (λ b. not (is_blank b)) (drop l.i l.text) ≡ prefix_len (λ b. not (is_blank b)) l.text
