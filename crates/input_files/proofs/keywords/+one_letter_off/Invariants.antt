use Rattle.std.proofs.Common.{length}
use Rattle.input_files.proofs.keywords.+one_letter_off.Given as goal

abbrev pub decreases-one_letter_off : goal.decreases-one_letter_off
decreases-one_letter_off l = length l.word.now
