-- The loop over lines, by one judge and no state.
use Rattle.std.proofs.Common.{refl}
use Rattle.text_lines.proofs.Mapped.{mapped_all, mapped_at, mapped_reading, mapped_too_long, mapped_writing}
use Rattle.hart_trace.specs.Answers.{answered_by, is_no_access}
use Rattle.hart_trace.proofs.Judged.{if_ok}
use Rattle.trace_answers.specs.declared.explaining_judges.ExplainingJudge.{ExplainingJudge}
use Rattle.trace_answers.specs.Explained.{explaining}
use Rattle.trace_answers.proofs.Judged.{Keeps, explains, follows, stateless}
use Rattle.trace_answers.proofs.explaining_judges.explain_judged.Goals as goal

pub returns-clause-all : goal.returns-clause-all
returns-clause-all g c =
    let outcomes = g.J.AccessJudge.outcomes in
    let by = c.args.by.now in
    let begun : ExplainingJudge _ _ = record { by = c.args.by; deciders = c.args.deciders } in
    if_ok c.interpret_lines.result (mapped_all (Keeps by) stateless (explains outcomes) (explaining (answered_by (outcomes by)))
    (follows outcomes by) begun _ _ _ _ _ refl) (c.interpret_lines.ensures.all tt)

pub returns-clause-line : goal.returns-clause-line
returns-clause-line g c = λ n e.
    let outcomes = g.J.AccessJudge.outcomes in
    let by = c.args.by.now in
    let begun : ExplainingJudge _ _ = record { by = c.args.by; deciders = c.args.deciders } in
    mapped_at (Keeps by) stateless (explains outcomes) (explaining (answered_by (outcomes by))) _ is_no_access (follows outcomes by)
    (λ s line h. h) n begun _ _ _ _ _ refl (c.interpret_lines.ensures.line tt n e)

pub returns-clause-too_long : goal.returns-clause-too_long
returns-clause-too_long g c = λ e.
    let outcomes = g.J.AccessJudge.outcomes in
    let by = c.args.by.now in
    let begun : ExplainingJudge _ _ = record { by = c.args.by; deciders = c.args.deciders } in
    mapped_too_long (Keeps by) stateless (explains outcomes) (explaining (answered_by (outcomes by))) (follows outcomes by)
    begun _ _ _ _ _ refl (c.interpret_lines.ensures.too_long tt e)

pub returns-clause-read : goal.returns-clause-read
returns-clause-read g c = λ e.
    let outcomes = g.J.AccessJudge.outcomes in
    let by = c.args.by.now in
    let begun : ExplainingJudge _ _ = record { by = c.args.by; deciders = c.args.deciders } in
    mapped_reading (Keeps by) stateless (explains outcomes) (explaining (answered_by (outcomes by))) (follows outcomes by)
    begun _ _ _ _ _ refl (c.interpret_lines.ensures.read tt e)

pub returns-clause-write : goal.returns-clause-write
returns-clause-write g c = λ e.
    let outcomes = g.J.AccessJudge.outcomes in
    let by = c.args.by.now in
    let begun : ExplainingJudge _ _ = record { by = c.args.by; deciders = c.args.deciders } in
    mapped_writing (Keeps by) stateless (explains outcomes) (explaining (answered_by (outcomes by))) (follows outcomes by)
    begun _ _ _ _ _ refl (c.interpret_lines.ensures.write tt e)
