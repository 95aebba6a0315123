-- The loop over lines, told of one judge and no state.
use Rattle.std.proofs.Common.{refl}
use Rattle.text_lines.proofs.Mapped.{mapped_all, mapped_at, mapped_reading, mapped_too_long, mapped_writing}
use Rattle.hart_trace.specs.declared.judge.LineJudge.{LineJudge}
use Rattle.hart_trace.specs.Answers.{answered_by, is_no_access}
use Rattle.hart_trace.proofs.Judged.{Keeps, judges, stateless, follows, if_ok}
use Rattle.hart_trace.proofs.judge.judge_lines.Goals as goal

pub returns-clause-all : goal.returns-clause-all
returns-clause-all g c =
    let outcomes = g.J.AccessJudge.outcomes in
    let by = c.args.by.now in
    let begun : LineJudge _ = record { by = c.args.by } in
    if_ok c.interpret_lines.result (mapped_all (Keeps by) stateless (judges outcomes) (answered_by (outcomes by)) (follows outcomes by) begun _ _ _ _ _ refl)
    (c.interpret_lines.ensures.all tt)

pub returns-clause-line : goal.returns-clause-line
returns-clause-line g c = λ n e.
    let outcomes = g.J.AccessJudge.outcomes in
    let by = c.args.by.now in
    let begun : LineJudge _ = record { by = c.args.by } in
    mapped_at (Keeps by) stateless (judges outcomes) (answered_by (outcomes by)) _ is_no_access (follows outcomes by) (λ s line h. h) n begun _ _ _ _ _ refl
    (c.interpret_lines.ensures.line tt n e)

pub returns-clause-too_long : goal.returns-clause-too_long
returns-clause-too_long g c = λ e.
    let outcomes = g.J.AccessJudge.outcomes in
    let by = c.args.by.now in
    let begun : LineJudge _ = record { by = c.args.by } in
    mapped_too_long (Keeps by) stateless (judges outcomes) (answered_by (outcomes by)) (follows outcomes by) begun _ _ _ _ _ refl
    (c.interpret_lines.ensures.too_long tt e)

pub returns-clause-read : goal.returns-clause-read
returns-clause-read g c = λ e.
    let outcomes = g.J.AccessJudge.outcomes in
    let by = c.args.by.now in
    let begun : LineJudge _ = record { by = c.args.by } in
    mapped_reading (Keeps by) stateless (judges outcomes) (answered_by (outcomes by)) (follows outcomes by) begun _ _ _ _ _ refl
    (c.interpret_lines.ensures.read tt e)

pub returns-clause-write : goal.returns-clause-write
returns-clause-write g c = λ e.
    let outcomes = g.J.AccessJudge.outcomes in
    let by = c.args.by.now in
    let begun : LineJudge _ = record { by = c.args.by } in
    mapped_writing (Keeps by) stateless (judges outcomes) (answered_by (outcomes by)) (follows outcomes by) begun _ _ _ _ _ refl
    (c.interpret_lines.ensures.write tt e)
