use Rattle.hart_sim.proofs.trace_run.MachineInterpreter.interpret.Goals as goal

pub answer-requires-clause-hart : goal.answer-requires-clause-hart
answer-requires-clause-hart c = rw c.in-Some.is at c.in-Ok.ensures.hart

pub answer-requires-clause-event : goal.answer-requires-clause-event
answer-requires-clause-event c = rw c.in-Some.is at c.in-Ok.ensures.event
