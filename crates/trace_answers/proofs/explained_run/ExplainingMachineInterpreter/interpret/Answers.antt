use Rattle.std.proofs.Common.{◌≡◌, ◌≢◌, ◌∙◌, ◌+◌, ◌++◌, decimal, Some, ap, refl, subst, sym}
use Rattle.hart_sim.specs.After.{Happens}
use Rattle.hart_sim.specs.Reports.{DoesLine}
use Rattle.hart_trace.specs.declared.reply.Reply.TheVariants.{NoMemory}
use Rattle.hart_trace.specs.Texts.{reply_text}
use Rattle.trace_answers.proofs.explained_run.ExplainingMachineInterpreter.interpret.Goals as goal

-- the event that the line says has happened
pub returns-then-wants_memory-clause-starved : goal.returns-then-wants_memory-clause-starved
returns-then-wants_memory-clause-starved c = λ is k.
    let wanted : c.step-reply.result ≡ NoMemory = c.wants_memory.ensures.yes c.if-wants_memory.true in
    let happens : Happens c.args.self.now.machine c.in-Some.hart c.in-Some.event c.step-reply.result c.step-reply.new.self = record {
      known = rw c.in-Some.is at c.in-Ok.ensures.hart;
      possible = rw c.in-Some.is at c.in-Ok.ensures.event;
      happened = c.step-reply.ensures.step k;
      judged = c.step-reply.ensures.judged;
      others = c.step-reply.ensures.others;
      kept = c.step-reply.ensures.kept k;
    } in (
      c.in-Some.hart,
      c.in-Some.event,
      sym c.in-Ok.ensures.meaning ∙ ap Some c.in-Some.is,
      subst
          (λ r. Happens c.args.self.now.machine c.in-Some.hart c.in-Some.event r c.step-reply.new.self) wanted happens,
    )

-- and its answer has a comment
pub returns-clause-done : goal.returns-clause-done
returns-clause-done c = λ k.
    let answered : c.step-reply.result ≢ NoMemory = c.wants_memory.ensures.no c.if-wants_memory.false in
    let happens : Happens c.args.self.now.machine c.in-Some.hart c.in-Some.event c.step-reply.result c.step-reply.new.self = record {
      known = rw c.in-Some.is at c.in-Ok.ensures.hart;
      possible = rw c.in-Some.is at c.in-Ok.ensures.event;
      happened = c.step-reply.ensures.step k;
      judged = c.step-reply.ensures.judged;
      others = c.step-reply.ensures.others;
      kept = c.step-reply.ensures.kept k;
    } in
    let number = decimal (c.args.count + 1) in
    let text : number ++ c.push_reply.new.line ≡ reply_text (c.args.count + 1) c.step-reply.result = c.push_reply.ensures.text answered (c.args.count + 1) in (
      Some (number ++ c.push_reply.new.line),
      (c.in-Some.hart, c.in-Some.event, c.step-reply.result, sym c.in-Ok.ensures.meaning ∙ ap Some c.in-Some.is, happens, answered, text),
      (c.comment_on-comment.result.bytes, ap (λ t. Some t) c.explain.ensures),
    )
