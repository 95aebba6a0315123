use Rattle.std.proofs.Common.{length}
use Rattle.input_files.proofs.keywords.+begins_alike.Given as goal

abbrev pub decreases-begins_alike : goal.decreases-begins_alike
decreases-begins_alike l = length l.word.now
