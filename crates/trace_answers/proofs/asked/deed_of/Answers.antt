use Rattle.trace_answers.specs.Asked.{access, call, interrupt, setting}
use Rattle.trace_answers.proofs.asked.deed_of.Goals as goal

pub returns-in-Access : goal.returns-in-Access
returns-in-Access c = rw c.in-Access.is (access _ _ _ c.reason_on.ensures)

pub returns-in-Reg : goal.returns-in-Reg
returns-in-Reg c = rw c.in-Reg.is (setting _ _)

pub returns-in-Ecall : goal.returns-in-Ecall
returns-in-Ecall c = rw (c.in-Ecall.is, c.called_with.ensures, c.as_slice.ensures.value) (call c.in-Ecall.words)

pub returns-in-Irq : goal.returns-in-Irq
returns-in-Irq c = rw c.in-Irq.is interrupt
