-- The comparison, told of one judge and no state.
use Rattle.std.proofs.Common.{refl}
use Rattle.text_lines.proofs.Mapped.{mapped_at, mapped_reading, mapped_too_long, mapped_writing}
use Rattle.hart_trace.specs.declared.judge.LineJudge.{LineJudge}
use Rattle.hart_trace.specs.Answers.{answered_by, is_no_access}
use Rattle.hart_trace.proofs.Judged.{Keeps, judges, stateless, follows, if_ok}
use Rattle.trace_answers.proofs.FirstDifference.{mapped_compared}
use Rattle.trace_answers.proofs.judges.compare_judged.Goals as goal

pub returns-clause-all : goal.returns-clause-all
returns-clause-all g c =
    let outcomes = g.J.AccessJudge.outcomes in
    let by = c.args.by.now in
    let begun : LineJudge _ = record { by = c.args.by } in
    if_ok c.compare_lines-first.result.end (mapped_compared (Keeps by) stateless (judges outcomes) (answered_by (outcomes by))
    (follows outcomes by) begun _ _ _ _ _ _ refl) (c.compare_lines-first.ensures.all tt)

pub returns-clause-line : goal.returns-clause-line
returns-clause-line g c = λ n e.
    let outcomes = g.J.AccessJudge.outcomes in
    let by = c.args.by.now in
    let begun : LineJudge _ = record { by = c.args.by } in
    mapped_at (Keeps by) stateless (judges outcomes) (answered_by (outcomes by)) _ is_no_access (follows outcomes by) (λ s line h. h) n begun _ _ _ _ _ refl
    (c.compare_lines-first.ensures.line tt n e)

pub returns-clause-too_long : goal.returns-clause-too_long
returns-clause-too_long g c = λ e.
    let outcomes = g.J.AccessJudge.outcomes in
    let by = c.args.by.now in
    let begun : LineJudge _ = record { by = c.args.by } in
    mapped_too_long (Keeps by) stateless (judges outcomes) (answered_by (outcomes by)) (follows outcomes by) begun _ _ _ _ _ refl
    (c.compare_lines-first.ensures.too_long tt e)

pub returns-clause-read : goal.returns-clause-read
returns-clause-read g c = λ e.
    let outcomes = g.J.AccessJudge.outcomes in
    let by = c.args.by.now in
    let begun : LineJudge _ = record { by = c.args.by } in
    mapped_reading (Keeps by) stateless (judges outcomes) (answered_by (outcomes by)) (follows outcomes by) begun _ _ _ _ _ refl
    (c.compare_lines-first.ensures.read tt e)

pub returns-clause-write : goal.returns-clause-write
returns-clause-write g c = λ e.
    let outcomes = g.J.AccessJudge.outcomes in
    let by = c.args.by.now in
    let begun : LineJudge _ = record { by = c.args.by } in
    mapped_writing (Keeps by) stateless (judges outcomes) (answered_by (outcomes by)) (follows outcomes by) begun _ _ _ _ _ refl
    (c.compare_lines-first.ensures.write tt e)

pub returns-clause-no_memory : goal.returns-clause-no_memory
returns-clause-no_memory g c = λ e. (c.compare_lines-first.ensures.memory tt e).starved
