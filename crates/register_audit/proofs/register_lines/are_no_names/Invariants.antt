use Rattle.std.proofs.Common.{◌≡◌, length}
use Rattle.std.specs.List.{list_all}
use Rattle.text_lines.specs.Words.{split_words}
use Rattle.register_audit.specs.Lines.{is_no_name}
use Rattle.register_audit.proofs.register_lines.are_no_names.Given as goal

abbrev pub invariant-loop-word : goal.invariant-loop-word
invariant-loop-word l = list_all is_no_name (split_words l.left.rest.now) ≡ list_all is_no_name (split_words l.words.rest.now)

abbrev pub decreases-loop-word : goal.decreases-loop-word
decreases-loop-word l = length l.left.rest.now
