use Rattle.std.proofs.Common.{◌≡◌, length}
use Rattle.text_lines.specs.Words.{split_words}
use Rattle.register_audit.specs.LogLines.{without_times}
use Rattle.register_audit.proofs.lines.without_times.Given as goal

abbrev pub invariant-loop-word : goal.invariant-loop-word
invariant-loop-word l = record {
  same : l.left.rest.now ≡ l.rest.rest.now;
  kept : without_times (split_words l.rest.rest.now) ≡ without_times (split_words l.words.rest.now);
}

abbrev pub decreases-loop-word : goal.decreases-loop-word
decreases-loop-word l = length l.rest.rest.now
