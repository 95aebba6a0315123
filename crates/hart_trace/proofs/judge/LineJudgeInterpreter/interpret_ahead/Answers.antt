use Rattle.std.proofs.Common.{◌∙◌, ◌+◌, ◌++◌, Some, decimal, ap, refl, sym}
use Rattle.hart_trace.specs.Answers.{answer_end, only_access}
use Rattle.hart_trace.proofs.judge.LineJudgeInterpreter.interpret_ahead.Goals as goal

-- a plain line is an access, as any other of that meaning
pub returns-clause-comes : goal.returns-clause-comes
returns-clause-comes g c = λ k.
    let access = ap only_access c.in_ok-found.ensures.access ∙ ap (λ a. Some (Some a)) (sym c.taken_apart-access.ensures) in
    let behind = c.push_answer.ensures ∙ ap (λ xs. xs ++ answer_end c.outcome.result) c.requires.empty in
    let text = ap (λ xs. Some (decimal (c.args.count + 1) ++ xs)) behind in
    ((Some c.taken_apart-access.result, access, (c.outcome.result, c.outcome.ensures, text)), refl)
