use Rattle.sbi_calls.proofs.BitLemmas.{set_here, set_elsewhere}
use Rattle.sbi_calls.proofs.bits.with_bit.Goals as goal

pub returns-clause-here : goal.returns-clause-here
returns-clause-here c = rw c.bit.ensures (set_here c.args.word c.args.place)

pub returns-clause-others : goal.returns-clause-others
returns-clause-others c = λ i other. rw c.bit.ensures (set_elsewhere c.args.word c.args.place i other)
