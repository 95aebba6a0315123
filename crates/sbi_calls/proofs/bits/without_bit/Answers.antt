use Rattle.sbi_calls.proofs.BitLemmas.{cleared_here, cleared_elsewhere}
use Rattle.sbi_calls.proofs.bits.without_bit.Goals as goal

pub returns-clause-here : goal.returns-clause-here
returns-clause-here c = rw c.bit.ensures (cleared_here c.args.word c.args.place)

pub returns-clause-others : goal.returns-clause-others
returns-clause-others c = λ i other. rw c.bit.ensures (cleared_elsewhere c.args.word c.args.place i other)
