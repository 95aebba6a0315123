use Rattle.std.proofs.Common.{length}
use Rattle.trace_answers.proofs.comments.+begins.Given as goal

abbrev pub decreases-begins : goal.decreases-begins
decreases-begins l = length l.answer.rest.now
