use Rattle.sbi_decode.specs.Registers.{zeros}
use Rattle.trap_server.proofs.service.take_mark.Goals as goal

pub returns-clause-mark : goal.returns-clause-mark
returns-clause-mark c = c.is_marked-is_marked.ensures

pub returns-clause-state : goal.returns-clause-state
returns-clause-state c = c.wake.ensures.state (λ who. zeros)
