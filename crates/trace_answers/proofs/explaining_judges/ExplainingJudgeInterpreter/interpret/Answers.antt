use Rattle.std.proofs.Common.{refl}
use Rattle.hart_trace.specs.Answers.{answered_by}
use Rattle.trace_answers.proofs.Judged.{explained_where}
use Rattle.trace_answers.proofs.explaining_judges.ExplainingJudgeInterpreter.interpret.Goals as goal

pub returns-then-answered-clause-done : goal.returns-then-answered-clause-done
returns-then-answered-clause-done g c = λ k.
    let done = c.in-Ok.ensures.done tt in (
      explained_where (answered_by (g.J.AccessJudge.outcomes c.args.self.now.by.now)) tt tt c.args.count c.args.line.now
          c.in-Ok.answered c.interpret.new.answer c.explain.new.answer c.comment_on-comment.result.bytes c.if-answered.true done.0 c.explain.ensures,
      refl,
    )
