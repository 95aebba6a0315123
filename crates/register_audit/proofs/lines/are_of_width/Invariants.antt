use Rattle.std.proofs.Common.{◌≡◌, length, not}
use Rattle.std.specs.List.{list_all}
use Rattle.text_lines.specs.Words.{split_words}
use Rattle.register_audit.specs.LogLines.{is_other_width}
use Rattle.register_audit.proofs.lines.are_of_width.Given as goal

abbrev pub invariant-loop-word : goal.invariant-loop-word
invariant-loop-word l = list_all (λ word. not (is_other_width l.xlen word)) (split_words l.left.rest.now)
    ≡ list_all (λ word. not (is_other_width l.xlen word)) (split_words l.words.rest.now)

abbrev pub decreases-loop-word : goal.decreases-loop-word
decreases-loop-word l = length l.left.rest.now
