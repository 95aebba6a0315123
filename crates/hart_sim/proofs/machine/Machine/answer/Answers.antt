use Rattle.std.proofs.Common.{◌≡◌, ◌≢◌, subst}
use Rattle.hart_sim.specs.After.{Happens}
use Rattle.hart_trace.specs.declared.reply.Reply.TheVariants.{NoMemory}
use Rattle.hart_sim.proofs.machine.Machine.answer.Goals as goal

-- the event has happened
pub returns-then-wants_memory-clause-starved : goal.returns-then-wants_memory-clause-starved
returns-then-wants_memory-clause-starved c = λ k.
    let wanted : c.step-reply.result ≡ NoMemory = c.wants_memory.ensures.yes c.if-wants_memory.true in
    subst (λ r. Happens c.args.self.now c.args.hart c.args.event r c.step-reply.new.self) wanted (c.step-reply.ensures.happens k)

pub returns-clause-done : goal.returns-clause-done
returns-clause-done c = λ k.
    let answered : c.step-reply.result ≢ NoMemory = c.wants_memory.ensures.no c.if-wants_memory.false in
    (c.step-reply.result, c.step-reply.ensures.happens k, answered, c.push_reply.ensures.text answered)
