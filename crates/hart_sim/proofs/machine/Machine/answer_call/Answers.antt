use Rattle.std.proofs.Common.{◌≡◌, ◌≢◌, subst}
use Rattle.hart_trace.specs.declared.event.Event.TheVariants as events
use Rattle.hart_sim.specs.After.{Happens}
use Rattle.hart_trace.specs.declared.reply.Reply.TheVariants.{NoMemory}
use Rattle.hart_sim.proofs.machine.Machine.answer_call.Goals as goal

-- the call has happened
pub returns-then-wants_memory-clause-starved : goal.returns-then-wants_memory-clause-starved
returns-then-wants_memory-clause-starved c = λ k.
    let wanted : c.call-reply.result ≡ NoMemory = c.wants_memory.ensures.yes c.if-wants_memory.true in
    subst (λ r. Happens c.args.self.now c.args.hart (events.Ecall c.args.words.now) r c.call-reply.new.self) wanted (c.call-reply.ensures.happens k)

pub returns-clause-done : goal.returns-clause-done
returns-clause-done c = λ k.
    let answered : c.call-reply.result ≢ NoMemory = c.wants_memory.ensures.no c.if-wants_memory.false in
    (c.call-reply.result, c.call-reply.ensures.happens k, answered, c.push_reply.ensures.text answered)
