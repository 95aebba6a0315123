use Rattle.hart_trace.proofs.OneDigit.{each_ends}
use Rattle.hart_trace.proofs.answers.ending_of.Goals as goal

pub returns-clause-text : goal.returns-clause-text
returns-clause-text c = rw c.place_of.ensures (each_ends _ c.args.answer).0

pub returns-clause-few : goal.returns-clause-few
returns-clause-few c = rw c.place_of.ensures (each_ends _ c.args.answer).1
