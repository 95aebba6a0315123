use Rattle.std.proofs.Common.{◌≡◌, ◌+◌, drop}
use Rattle.std.specs.List.{prefix_len}
use Rattle.trace_answers.specs.Comments.{is_spoken}
use Rattle.trace_answers.proofs.comments.spoken_len.Given as goal

abbrev pub invariant-loop-i : goal.invariant-loop-i
invariant-loop-i l = l.i + prefix_len (is_spoken) (drop l.i l.word) ≡ prefix_len (is_spoken) l.word
