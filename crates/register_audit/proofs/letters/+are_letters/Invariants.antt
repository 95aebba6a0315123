use Rattle.std.proofs.Common.{length}
use Rattle.register_audit.proofs.letters.+are_letters.Given as goal

abbrev pub decreases-are_letters : goal.decreases-are_letters
decreases-are_letters l = length l.text.now
