use Rattle.hart_sim.proofs.parts.MachineParts.ecall.Goals as goal

pub returns-clause-step : goal.returns-clause-step
returns-clause-step c = let s = c.serve-answer.ensures.served in (c.serve-answer.result, s.0, s.1, s.2, s.3, c.reply_to_call.ensures)
