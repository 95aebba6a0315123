-- The loop over lines, without the tally.
use Rattle.text_lines.proofs.Mapped.{mapped_all, mapped_at, mapped_memory, mapped_reading, mapped_too_long, mapped_writing}
use Rattle.hart_trace.proofs.Judged.{if_ok}
use Rattle.hart_sim.specs.Reports.{DoesLine, RefusesLine, StarvesLine}
use Rattle.trace_answers.specs.declared.explained_run.ExplainingMachine.{ExplainingMachine}
use Rattle.trace_answers.specs.Explained.{explaining}
use Rattle.trace_answers.proofs.ExplainedRuns.{any, explains, follows, machine_of}
use Rattle.trace_answers.proofs.explained_run.explain_run.Goals as goal

pub returns-clause-all : goal.returns-clause-all
returns-clause-all g c = λ k. if_ok c.interpret_lines-end.result (mapped_all any machine_of explains (explaining DoesLine) follows _ _ _ _ _ _ tt)
    (c.interpret_lines-end.ensures.all k)

pub returns-clause-line : goal.returns-clause-line
returns-clause-line g c = λ k n e. mapped_at any machine_of explains (explaining DoesLine) _ RefusesLine follows (λ s line h. h) n _ _ _ _ _ _ tt
    (c.interpret_lines-end.ensures.line k n e)

pub returns-clause-too_long : goal.returns-clause-too_long
returns-clause-too_long g c = λ k e. mapped_too_long any machine_of explains (explaining DoesLine) follows _ _ _ _ _ _ tt
    (c.interpret_lines-end.ensures.too_long k e)

pub returns-clause-read : goal.returns-clause-read
returns-clause-read g c = λ k e. mapped_reading any machine_of explains (explaining DoesLine) follows _ _ _ _ _ _ tt
    (c.interpret_lines-end.ensures.read k e)

pub returns-clause-write : goal.returns-clause-write
returns-clause-write g c = λ k e. mapped_writing any machine_of explains (explaining DoesLine) follows _ _ _ _ _ _ tt
    (c.interpret_lines-end.ensures.write k e)

pub returns-clause-memory : goal.returns-clause-memory
returns-clause-memory g c = λ k e. mapped_memory any machine_of explains (explaining DoesLine) _ StarvesLine follows (λ s line t h is. is) _ _ _ _ _ _ tt
    (c.interpret_lines-end.ensures.memory k e)
